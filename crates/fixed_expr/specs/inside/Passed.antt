-- The points of a curve up to a number.
use Rattle.std.specs.Prelude.{ℕ, ◌<◌, ◌≤◌, ℤ, ◌≤ℤ◌, ◌<ℤ◌, List, length, slice_index_or}

-- The first n points have arguments up to a number, and the others don't.
pub record ArePassed (points : List (ℤ × ℤ)) (x : ℤ) (n : ℕ) : Type 0 where
  pub whole : n ≤ length points
  pub before : (k : ℕ) (d : ℤ × ℤ) → k < n → (slice_index_or points k d).0 ≤ℤ x
  pub after : (k : ℕ) (d : ℤ × ℤ) → n ≤ k → k < length points → x <ℤ (slice_index_or points k d).0
