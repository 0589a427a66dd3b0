-- A rising list of cells that are at most two positions and two speeds from a corner has at most nine.
use Rattle.std.proofs.Common.{◌≡◌, ℕ, suc, ◌+◌, ◌*◌, ◌<◌, ◌≤◌, List, [], ◌∷◌, length, get_or, arith}
use Rattle.std.specs.Prelude.{AllPairs}

-- A cell is at most two positions and two speeds from a corner, after so many of the nine.
pub record IsNear (corner before c : ℕ) : Type 0 where
  pub positions : ℕ
  pub speeds : ℕ
  pub few_positions : positions ≤ 2
  pub few_speeds : speeds ≤ 2
  pub is : c ≡ corner + 20 * positions + speeds
  pub after : before ≤ 3 * positions + speeds

later : (corner before c d : ℕ) → c < d → (near : IsNear corner before c) → IsNear corner before d → IsNear corner (3 * near.positions + near.speeds + 1) d
later corner before c d lt near far = record {
  positions = far.positions;
  speeds = far.speeds;
  few_positions = far.few_positions;
  few_speeds = far.few_speeds;
  is = far.is;
  after = after near.positions near.speeds far.positions far.speeds near.few_speeds far.few_speeds (omega arith);
}
  where
    after : (a b e f : ℕ) → b ≤ 2 → f ≤ 2 → 20 * a + b < 20 * e + f → 3 * a + b + 1 ≤ 3 * e + f
    after a b e f hb hf lt = omega arith

pub at_most_nine : (corner before : ℕ) (cells : List ℕ) → before ≤ 9 → AllPairs (λ x y. x < y) cells → ((k : ℕ) → k < length cells → IsNear corner before (get_or cells k 0)) → length cells + before ≤ 9
at_most_nine corner before [] le rises near = omega (arith, le)
at_most_nine corner before (c ∷ cells) le rises near =
    let first : IsNear corner before c = near 0 (omega arith) in
    let rest =
    at_most_nine corner (3 * first.positions + first.speeds + 1) cells (omega (arith, first.few_positions, first.few_speeds))
    (λ i j d lt below. rises (suc i) (suc j) d (omega (arith, lt)) (omega (arith, below)))
    (λ k lt. later corner before c (get_or cells k 0) (rises 0 (suc k) 0 (omega arith) (omega (arith, lt))) first (near (suc k) (omega (arith, lt)))) in
    omega (arith, rest, first.after)
