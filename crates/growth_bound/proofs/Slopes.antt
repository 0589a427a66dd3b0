-- How far a floor lies from a straight line, in whole numbers: a piece of a curve that rises by y over n, at s of these n.
-- Signed numbers are differences: k is ku less kd, and y is yu less yd. The slope is at most t over d.
use Rattle.std.proofs.Common.{ℕ, ◌+◌, ◌*◌, ◌<◌, ◌≤◌, arith, inl, inr}
use Rattle.std.proofs.lemmas.Bool.{cases_lt}
use Rattle.std.proofs.Math.Nat.{mul-le-mul_left}

-- what isn't more is less or the same
pub at_most : (a b : ℕ) → (b + 1 ≤ a → ⊥) → a ≤ b
at_most a b not_more =
    elim (cases_lt b a) [
      | inl more ↦ absurd (not_more (omega (arith, more)))
      | inr below ↦ below
    ]

module _ (d t ku kd yu yd : ℕ) where
  -- from the left end the floor rises by at most the slope
  pub rises_from : (n s : ℕ) → 0 < n → ku * n + yd * s ≤ kd * n + yu * s → d * yu ≤ t * n + d * yd → d * ku ≤ t * s + d * kd
  rises_from n s some floor slope =
      at_most (d * ku) (t * s + d * kd) (λ more.
      let far = mul-le-mul_left n more in
      let line = mul-le-mul_left d floor in
      let steep = mul-le-mul_left s slope in
      omega (arith, far, line, steep, some))

  -- it falls by less than one more
  pub falls_from : (n s : ℕ) → 0 < n → 0 < d → yu * s + kd * n + 1 ≤ ku * n + n + yd * s → d * yd ≤ t * n + d * yu → d * kd + 1 ≤ t * s + d * ku + d
  falls_from n s some moves floor slope =
      at_most (d * kd + 1) (t * s + d * ku + d) (λ more.
      let far = mul-le-mul_left n more in
      let line = mul-le-mul_left d floor in
      let steep = mul-le-mul_left s slope in
      omega (arith, far, line, steep, some, moves))

  -- to the right end, r further on, it rises by less than one more
  pub rises_to : (s r : ℕ) → 0 < s + r → 0 < d → yu * s + kd * (s + r) + 1 ≤ ku * (s + r) + (s + r) + yd * s → d * yu ≤ t * (s + r) + d * yd → d * yu + d * kd + 1 ≤ t * r + d * ku + d + d * yd
  rises_to s r some moves floor slope =
      at_most (d * yu + d * kd + 1) (t * r + d * ku + d + d * yd) (λ more.
      let far = mul-le-mul_left (s + r) more in
      let line = mul-le-mul_left d floor in
      let steep = mul-le-mul_left r slope in
      omega (arith, far, line, steep, some, moves))

  -- and falls by at most the slope
  pub falls_to : (s r : ℕ) → 0 < s + r → ku * (s + r) + yd * s ≤ kd * (s + r) + yu * s → d * yd ≤ t * (s + r) + d * yu → d * ku + d * yd ≤ t * r + d * kd + d * yu
  falls_to s r some floor slope =
      at_most (d * ku + d * yd) (t * r + d * kd + d * yu) (λ more.
      let far = mul-le-mul_left (s + r) more in
      let line = mul-le-mul_left d floor in
      let steep = mul-le-mul_left r slope in
      omega (arith, far, line, steep, some))
