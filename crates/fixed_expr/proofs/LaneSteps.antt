-- One more lane is done.
use Rattle.std.proofs.Common.{◌≡◌, ℕ, ◌+◌, ◌<◌, List, rules, to_z, of_z, w64}
use Rattle.std.specs.Prelude.{ℤ, slice_set}
use Rattle.fixed_expr.specs.NarrowValues.{IsNarrow}
use Rattle.fixed_expr.specs.inside.Progress.{AreDone}

pub one_lane_more : (start found : List ℤ) (wanted : ℕ → ℤ) (n : ℕ) (z : ℤ) → n < 32 → AreDone n start found wanted → IsNarrow z → z ≡ wanted n → AreDone (n + 1) start (slice_set found n (to_z w64 (of_z w64 z))) wanted
one_lane_more start found wanted n z here done narrow is = search rules
