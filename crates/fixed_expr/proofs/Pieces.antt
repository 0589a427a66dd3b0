-- Values of a curve, along one piece and from piece to piece.
use Rattle.std.proofs.Common.{◌≡◌, ◌+◌, ◌-◌, ◌*◌, ◌/◌, ◌^◌, ◌<◌, ◌≤◌, List, [], ◌∷◌, Bool, true, false, refl, sym, ap, ◌∙◌, subst, arith}
use Rattle.std.specs.Prelude.{ℤ, pos, negsuc, nat_abs, ◌+ℤ◌, ◌-ℤ◌, ◌*ℤ◌, ◌≤ℤ◌, ◌<ℤ◌, int_le, int_lt, if◌then◌else◌}
use Rattle.std.specs.Int.{int_min, int_max}
use Rattle.std.proofs.lemmas.Int.{ints, clamps}
use Rattle.std.proofs.lemmas.Nat.{div-mul-add}
use Rattle.std.proofs.Math.Nat.{zero-div}
use Rattle.std.proofs.Math.IntN.{*ℤ-zero}
use Rattle.fixed_expr.specs.DivExpr.{floor_div}
use Rattle.fixed_expr.specs.Curves.{IsShort, value_along, value_from}
use Rattle.base.proofs.Products.{times_positive, times_negative, quotients_in_order}

-- ---- floors of quotients

pub floors_in_order : (x y k : ℤ) → pos 1 ≤ℤ k → x ≤ℤ y → floor_div x k ≤ℤ floor_div y k
floors_in_order (pos m) (pos n) k some below =
    let order : m ≤ n = omega (arith, ints) in
    let divisor : 0 < nat_abs k = omega (arith, ints) in
    omega (arith, ints, quotients_in_order m n (nat_abs k) divisor order)
floors_in_order (pos m) (negsuc n) k some below = absurd (omega (arith, ints))
floors_in_order (negsuc m) (pos n) k some below = omega (arith, ints)
floors_in_order (negsuc m) (negsuc n) k some below =
    let order : n ≤ m = omega (arith, ints) in
    let divisor : 0 < nat_abs k = omega (arith, ints) in
    omega (arith, ints, quotients_in_order n m (nat_abs k) divisor order)

abbrev pub IsBetween : ℤ → ℤ → ℤ → Type 0
IsBetween low high x = (int_min low high ≤ℤ x) × (x ≤ℤ int_max low high)

-- the floor of a multiple lies between those around it
floor_between : (k low x high n : ℤ) → pos 1 ≤ℤ n → low ≤ℤ x → x ≤ℤ high → IsBetween (floor_div (k *ℤ low) n) (floor_div (k *ℤ high) n) (floor_div (k *ℤ x) n)
floor_between (pos m) low x high n some above below =
    let l = floors_in_order (pos m *ℤ low) (pos m *ℤ x) n some (times_positive m low x above) in
    let h = floors_in_order (pos m *ℤ x) (pos m *ℤ high) n some (times_positive m x high below) in
    order (floor_div (pos m *ℤ low) n) (floor_div (pos m *ℤ x) n) (floor_div (pos m *ℤ high) n) l h
  where
    order : (l x h : ℤ) → l ≤ℤ x → x ≤ℤ h → IsBetween l h x
    order l x h p q = (omega (arith, ints, clamps), omega (arith, ints, clamps))
floor_between (negsuc m) low x high n some above below =
    let l = floors_in_order (negsuc m *ℤ x) (negsuc m *ℤ low) n some (times_negative m low x above) in
    let h = floors_in_order (negsuc m *ℤ high) (negsuc m *ℤ x) n some (times_negative m x high below) in
    order (floor_div (negsuc m *ℤ low) n) (floor_div (negsuc m *ℤ x) n) (floor_div (negsuc m *ℤ high) n) l h
  where
    order : (l x h : ℤ) → x ≤ℤ l → h ≤ℤ x → IsBetween l h x
    order l x h p q = (omega (arith, ints, clamps), omega (arith, ints, clamps))

floor_exact : (k n : ℤ) → pos 1 ≤ℤ n → floor_div (k *ℤ n) n ≡ k
floor_exact (pos m) (pos n) some =
    let divisor : 0 < n = omega (arith, ints) in
    let whole : m * n ≡ m * n + 0 = omega arith in
    ap pos (ap (λ t. t / n) whole ∙ div-mul-add m n 0 divisor)
floor_exact (negsuc m) (pos n) some =
    let divisor : 0 < n = omega (arith, ints) in
    let whole : negsuc m *ℤ pos n ≡ negsuc (m * n + (n - 1)) = omega (arith, ints) in
    ap (λ z. floor_div z (pos n)) whole ∙ ap negsuc (div-mul-add m n (n - 1) (omega (arith, divisor)))
floor_exact k (negsuc n) some = absurd (omega (arith, ints))

-- ---- one piece

module _ (p q : ℤ × ℤ) (rises : p.0 <ℤ q.0) where
  some_width : pos 1 ≤ℤ (q.0 -ℤ p.0)
  some_width = omega (arith, ints, rises)

  -- a value lies between those around it
  pub piece_between : (low x high : ℤ) → low ≤ℤ x → x ≤ℤ high → IsBetween (value_along p q low) (value_along p q high) (value_along p q x)
  piece_between low x high above below =
      shifted p.1 _ _ _
      (floor_between (q.1 -ℤ p.1) (low -ℤ p.0) (x -ℤ p.0) (high -ℤ p.0) (q.0 -ℤ p.0) some_width (omega (arith, ints, above)) (omega (arith, ints, below)))
    where
      shifted : (y l h x : ℤ) → IsBetween l h x → IsBetween (y +ℤ l) (y +ℤ h) (y +ℤ x)
      shifted y l h x between = (omega (arith, ints, clamps, between.0, between.1), omega (arith, ints, clamps, between.0, between.1))

  -- the value at each end
  pub at_left : value_along p q p.0 ≡ p.1
  at_left =
      let none : p.0 -ℤ p.0 ≡ pos 0 = omega (arith, ints) in
      let zero_rise : (q.1 -ℤ p.1) *ℤ (p.0 -ℤ p.0) ≡ pos 0 = ap (λ z. (q.1 -ℤ p.1) *ℤ z) none ∙ *ℤ-zero (q.1 -ℤ p.1) in
      let floor : floor_div ((q.1 -ℤ p.1) *ℤ (p.0 -ℤ p.0)) (q.0 -ℤ p.0) ≡ pos 0 = ap (λ z. floor_div z (q.0 -ℤ p.0)) zero_rise ∙ ap pos (zero-div (nat_abs (q.0 -ℤ p.0))) in
      omega (arith, ints, floor)

  pub at_right : value_along p q q.0 ≡ q.1
  at_right =
      let floor = floor_exact (q.1 -ℤ p.1) (q.0 -ℤ p.0) some_width in
      omega (arith, ints, floor)

  -- between the two points the value lies between theirs
  pub between_points : (x : ℤ) → p.0 ≤ℤ x → x ≤ℤ q.0 → IsBetween p.1 q.1 (value_along p q x)
  between_points x above below =
      joined (value_along p q p.0) (value_along p q q.0) p.1 q.1 (value_along p q x) at_left at_right (piece_between p.0 x q.0 above below)
    where
      joined : (l h y z x : ℤ) → l ≡ y → h ≡ z → IsBetween l h x → IsBetween y z x
      joined l h y z x e f between = subst (λ (t : ℤ). IsBetween t z x) e (subst (λ (t : ℤ). IsBetween l t x) f between)

pub short_between : (p q : ℤ × ℤ) (x : ℤ) → IsShort p → IsShort q → IsBetween p.1 q.1 x → nat_abs x < 10 ^ 18
short_between p q x first second between = omega (arith, ints, clamps, first.1, second.1, between.0, between.1)

-- ---- from piece to piece

module _ (p q : ℤ × ℤ) (points : List (ℤ × ℤ)) (x : ℤ) where
  pub on_piece : p.0 <ℤ q.0 → p.0 ≤ℤ x → x <ℤ q.0 → value_from p (q ∷ points) x ≡ value_along p q x
  on_piece rises above below = by (int_le x p.0) (int_lt x q.0) refl refl
    where
      by : (s t : Bool) → int_le x p.0 ≡ s → int_lt x q.0 ≡ t → (if s then p.1 else (if t then value_along p q x else value_from q points x)) ≡ value_along p q x
      by true t e f = let here : x ≡ p.0 = omega (arith, ints, above) in sym (ap (value_along p q) here ∙ at_left p q rises)
      by false true e f = refl
      by false false e f = absurd (omega (arith, ints, below))

  pub after_piece : p.0 <ℤ q.0 → q.0 ≤ℤ x → value_from p (q ∷ points) x ≡ value_from q points x
  after_piece rises past = by (int_le x p.0) (int_lt x q.0) refl refl
    where
      by : (s t : Bool) → int_le x p.0 ≡ s → int_lt x q.0 ≡ t → (if s then p.1 else (if t then value_along p q x else value_from q points x)) ≡ value_from q points x
      by true t e f = absurd (omega (arith, ints, rises, past))
      by false true e f = absurd (omega (arith, ints, past))
      by false false e f = refl

-- before the first point the value is the first
pub before_first : (p : ℤ × ℤ) (points : List (ℤ × ℤ)) (x : ℤ) → x ≤ℤ p.0 → value_from p points x ≡ p.1
before_first p [] x below = refl
before_first p (q ∷ points) x below = by (int_le x p.0) refl
  where
    by : (s : Bool) → int_le x p.0 ≡ s → (if s then p.1 else (if int_lt x q.0 then value_along p q x else value_from q points x)) ≡ p.1
    by true e = refl
    by false e = absurd (omega (arith, ints, below))
