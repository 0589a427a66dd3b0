use Rattle.std.proofs.Common.{◌≡◌, length, All}
use Rattle.run_tests.proofs.live.threads.pupils_of.Given as goal

abbrev pub invariant-loop-reader : goal.invariant-loop-reader
invariant-loop-reader l = (l.publisher ≡ l.fn.publisher) × All (λ r. r.opening ≡ l.fn.publisher.opening) l.readers.items

abbrev pub decreases-loop-reader : goal.decreases-loop-reader
decreases-loop-reader l = length l.readers.items
