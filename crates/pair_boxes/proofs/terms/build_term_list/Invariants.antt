use Rattle.std.proofs.Common.{◌≡◌, ℕ, ◌/◌, ◌%◌, ◌<◌, None, length, get_or}
use Rattle.pair_boxes.specs.inside.Terms.{IsTermFrom}
use Rattle.pair_boxes.proofs.terms.build_term_list.Given as goal

-- the terms so far
abbrev pub invariant-loop-n : goal.invariant-loop-n
invariant-loop-n l = record {
  long : length l.terms.items ≡ l.n;
  each : (m : ℕ) → m < l.n → IsTermFrom l.of.sampled.plant.now l.of.state (m / length l.extents) (get_or l.extents (m % length l.extents) None) (get_or l.terms.items m None);
}
