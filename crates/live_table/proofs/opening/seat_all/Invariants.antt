use Rattle.std.proofs.Common.{◌≡◌, length, All}
use Rattle.live_table.specs.Publishes.{newcomer}
use Rattle.live_table.proofs.opening.seat_all.Given as goal

abbrev pub invariant-loop : goal.invariant-loop
invariant-loop l = (l.publisher ≡ l.fn.publisher) × (length l.all.items ≡ l.counter) × All (λ r. r ≡ newcomer l.fn.publisher) l.all.items
