use Rattle.std.proofs.Common.{◌≡◌, ℕ, ◌<◌, ◌≤◌, length, get_or}
use Rattle.live_table.specs.Publishes.{Listener}
use Rattle.live_run.specs.inside.Sessions.{InStep}
use Rattle.live_run.proofs.readers.tell_all.Given as goal

abbrev pub invariant-loop-reader : goal.invariant-loop-reader
invariant-loop-reader l = record {
  same : l.publisher ≡ l.fn.publisher;
  told : (k : ℕ) (d : Listener) → k < l.reader-index → InStep l.fn.publisher (get_or l.readers k d);
  opening : (k : ℕ) (d : Listener) → l.reader-index ≤ k → k < length l.readers → (get_or l.readers k d).opening ≡ l.fn.publisher.opening;
  after : (k : ℕ) (d : Listener) → l.reader-index ≤ k → k < length l.readers → length (get_or l.readers k d).told < length l.fn.publisher.list;
}
