-- The values of a curve at two numbers that are near are near: by the greatest rise over its pieces.
use Rattle.std.proofs.Common.{◌≡◌, ℕ, zero, suc, ◌+◌, ◌*◌, ◌<◌, ◌≤◌, List, [], ◌∷◌, refl, sym, ap, ◌∙◌, subst, subst₂, arith}
use Rattle.std.specs.Prelude.{ℤ, pos, negsuc, nat_abs, ◌+ℤ◌, ◌-ℤ◌, ◌*ℤ◌, ◌≤ℤ◌, ◌<ℤ◌}
use Rattle.std.specs.Int.{int_max}
use Rattle.std.proofs.lemmas.Int.{ints, clamps, by_lt_z}
use Rattle.std.proofs.Math.Nat.{mul-le-mul_left, mul-le-mul_right}
use borrow.Author.Differences.{up, down}
use Rattle.fixed_expr.specs.DivExpr.{floor_div}
use Rattle.fixed_expr.specs.Curves.{RiseFrom, IsCurve, value_along, value_from, curve_value}
use Rattle.fixed_expr.proofs.Laws.{at_left, on_piece, after_piece, before_first}
use Rattle.growth_bound.specs.Deviation.{IsNear, rise_of, rise_from, greatest_rise}
use Rattle.growth_bound.proofs.Division.{floor_bounds, ceiling_bound}
use Rattle.growth_bound.proofs.Distances.{near_multiple, near_quotient}
use Rattle.growth_bound.proofs.Slopes.{at_most, rises_from, falls_from, rises_to, falls_to}
use Rattle.base.proofs.Products.{times_positive}

-- from (v, a) to (w, b) the way rises by at most t over d
abbrev Climbs : ℕ → ℕ → ℤ → ℤ → ℤ → ℤ → Type 0
Climbs d t v a w b = ((pos d *ℤ b) +ℤ (pos t *ℤ v)) ≤ℤ ((pos d *ℤ a) +ℤ (pos t *ℤ w))

-- it does but for less than one
abbrev NearlyClimbs : ℕ → ℕ → ℤ → ℤ → ℤ → ℤ → Type 0
NearlyClimbs d t v a w b = ((pos d *ℤ b) +ℤ (pos t *ℤ v)) <ℤ (((pos d *ℤ a) +ℤ (pos t *ℤ w)) +ℤ pos d)

-- The floor of a straight line at a number, between its two ends.
record Slopes (d t : ℕ) (p q : ℤ × ℤ) (x y : ℤ) : Type 0 where
  pub up_from : Climbs d t p.0 p.1 x y
  pub down_from : NearlyClimbs d t p.0 y x p.1
  pub up_to : NearlyClimbs d t x y q.0 q.1
  pub down_to : Climbs d t x q.1 q.0 y

-- the slope of a piece, up and down
slope_up : (d t n : ℕ) (z : ℤ) → nat_abs z * d ≤ t * n → d * up z ≤ t * n + d * down z
slope_up d t n (pos m) most = omega (arith, most)
slope_up d t n (negsuc m) most = omega arith

slope_down : (d t n : ℕ) (z : ℤ) → nat_abs z * d ≤ t * n → d * down z ≤ t * n + d * up z
slope_down d t n (pos m) most = omega arith
slope_down d t n (negsuc m) most = omega (arith, most)

module _ (d t s r : ℕ) (a b c e x y k z : ℤ) (x_is : x ≡ a +ℤ pos s) (c_is : c ≡ x +ℤ pos r) (y_is : y ≡ b +ℤ k) (z_is : z ≡ e -ℤ b) where
  y_far : d * (up y + down b + down k) ≡ d * (down y + up b + up k)
  y_far = ap (λ (m : ℕ). d * m) (omega (arith, ints, y_is))

  z_far : d * (up z + down e + up b) ≡ d * (down z + up e + down b)
  z_far = ap (λ (m : ℕ). d * m) (omega (arith, ints, z_is))

  x_far : t * (up x + down a) ≡ t * (down x + up a + s)
  x_far = ap (λ (m : ℕ). t * m) (omega (arith, ints, x_is))

  c_far : t * (up c + down x) ≡ t * (down c + up x + r)
  c_far = ap (λ (m : ℕ). t * m) (omega (arith, ints, c_is))

  slopes : 0 < d → 0 < s + r → (k *ℤ pos (s + r)) ≤ℤ (z *ℤ pos s) → (z *ℤ pos s) <ℤ ((k *ℤ pos (s + r)) +ℤ pos (s + r)) → nat_abs z * d ≤ t * (s + r) → Slopes d t (a, b) (c, e) x y
  slopes moves some low high most =
      let n : ℕ = s + r in
      let floor : up k * n + down z * s ≤ down k * n + up z * s = omega (arith, ints, low) in
      let past : up z * s + down k * n + 1 ≤ up k * n + n + down z * s = omega (arith, ints, high) in
      let steep_up : d * up z ≤ t * n + d * down z = slope_up d t n z most in
      let steep_down : d * down z ≤ t * n + d * up z = slope_down d t n z most in
      let one = rises_from d t (up k) (down k) (up z) (down z) n s some floor steep_up in
      let two = falls_from d t (up k) (down k) (up z) (down z) n s some moves past steep_down in
      let three = rises_to d t (up k) (down k) (up z) (down z) s r some moves past steep_up in
      let four = falls_to d t (up k) (down k) (up z) (down z) s r some floor steep_down in
      record {
        up_from = omega (arith, ints, one, y_far, x_far);
        down_from = omega (arith, ints, two, y_far, x_far);
        up_to = omega (arith, ints, three, y_far, z_far, c_far);
        down_to = omega (arith, ints, four, y_far, z_far, c_far);
      }

module _ (d t : ℕ) (moves : 0 < d) (p q : ℤ × ℤ) (rises : p.0 <ℤ q.0) (most : rise_of p q d ≤ t) where
  abbrev run : ℕ
  run = nat_abs (q.0 -ℤ p.0)

  some_run : 0 < run
  some_run = omega (arith, ints, rises)

  steep : nat_abs (q.1 -ℤ p.1) * d ≤ t * run
  steep = omega (arith, ceiling_bound (nat_abs (q.1 -ℤ p.1) * d) run some_run, mul-le-mul_right run most)

  -- along the piece
  along : (x : ℤ) → p.0 ≤ℤ x → x ≤ℤ q.0 → Slopes d t p q x (value_along p q x)
  along x above below =
      let s : ℕ = nat_abs (x -ℤ p.0) in
      let r : ℕ = nat_abs (q.0 -ℤ x) in
      let run_is : q.0 -ℤ p.0 ≡ pos (s + r) = omega (arith, ints, above, below) in
      let part_is : x -ℤ p.0 ≡ pos s = omega (arith, ints, above) in
      let k : ℤ = floor_div ((q.1 -ℤ p.1) *ℤ (x -ℤ p.0)) (q.0 -ℤ p.0) in
      let some : 0 < s + r = omega (arith, ints, above, below, rises) in
      let bounds = floor_bounds ((q.1 -ℤ p.1) *ℤ pos s) (s + r) some in
      let is : floor_div ((q.1 -ℤ p.1) *ℤ pos s) (pos (s + r)) ≡ k = sym (ap (λ (n : ℤ). floor_div ((q.1 -ℤ p.1) *ℤ (x -ℤ p.0)) n) run_is ∙ ap (λ (m : ℤ). floor_div ((q.1 -ℤ p.1) *ℤ m) (pos (s + r))) part_is) in
      let low : (k *ℤ pos (s + r)) ≤ℤ ((q.1 -ℤ p.1) *ℤ pos s) = subst (λ (f : ℤ). (f *ℤ pos (s + r)) ≤ℤ ((q.1 -ℤ p.1) *ℤ pos s)) is bounds.0 in
      let high : ((q.1 -ℤ p.1) *ℤ pos s) <ℤ ((k *ℤ pos (s + r)) +ℤ pos (s + r)) = subst (λ (f : ℤ). ((q.1 -ℤ p.1) *ℤ pos s) <ℤ ((f *ℤ pos (s + r)) +ℤ pos (s + r))) is bounds.1 in
      let runs : run ≡ s + r = ap nat_abs run_is in
      slopes d t s r p.0 p.1 q.0 q.1 x (value_along p q x) k (q.1 -ℤ p.1) (omega (arith, ints, part_is)) (omega (arith, ints, run_is, part_is)) refl refl moves some low high (subst (λ (n : ℕ). nat_abs (q.1 -ℤ p.1) * d ≤ t * n) runs steep)

  -- from point to point
  climbs : Climbs d t p.0 p.1 q.0 q.1
  climbs =
      let run_far : t * (up q.0 + down p.0) ≡ t * (down q.0 + up p.0 + run) = ap (λ (m : ℕ). t * m) (omega (arith, ints, rises)) in
      let rise_far : d * (up (q.1 -ℤ p.1) + down q.1 + up p.1) ≡ d * (down (q.1 -ℤ p.1) + up q.1 + down p.1) = ap (λ (m : ℕ). d * m) (omega (arith, ints)) in
      omega (arith, ints, slope_up d t run (q.1 -ℤ p.1) steep, run_far, rise_far)

  falls : Climbs d t p.0 q.1 q.0 p.1
  falls =
      let run_far : t * (up q.0 + down p.0) ≡ t * (down q.0 + up p.0 + run) = ap (λ (m : ℕ). t * m) (omega (arith, ints, rises)) in
      let rise_far : d * (up (q.1 -ℤ p.1) + down q.1 + up p.1) ≡ d * (down (q.1 -ℤ p.1) + up q.1 + down p.1) = ap (λ (m : ℕ). d * m) (omega (arith, ints)) in
      omega (arith, ints, slope_down d t run (q.1 -ℤ p.1) steep, run_far, rise_far)

  -- two numbers on the piece
  near_along : (x x' : ℤ) → IsNear (pos d) x x' → IsNear (pos t) (value_along p q x) (value_along p q x')
  near_along x x' near =
      let some : pos 1 ≤ℤ (q.0 -ℤ p.0) = omega (arith, ints, rises) in
      let moved : IsNear (pos d) (x -ℤ p.0) (x' -ℤ p.0) = (omega (arith, ints, near.0), omega (arith, ints, near.1)) in
      let products = near_multiple (q.1 -ℤ p.1) (x -ℤ p.0) (x' -ℤ p.0) (nat_abs (q.1 -ℤ p.1)) d (omega arith) moved in
      let floors = near_quotient (nat_abs (q.1 -ℤ p.1) * d) ((q.1 -ℤ p.1) *ℤ (x -ℤ p.0)) ((q.1 -ℤ p.1) *ℤ (x' -ℤ p.0)) (q.0 -ℤ p.0) some products in
      wider (rise_of p q d) p.1 (floor_div ((q.1 -ℤ p.1) *ℤ (x -ℤ p.0)) (q.0 -ℤ p.0)) (floor_div ((q.1 -ℤ p.1) *ℤ (x' -ℤ p.0)) (q.0 -ℤ p.0)) most floors
    where
      wider : (c : ℕ) (y u v : ℤ) → c ≤ t → IsNear (pos c) u v → IsNear (pos t) (y +ℤ u) (y +ℤ v)
      wider c y u v few h = (omega (arith, ints, few, h.0), omega (arith, ints, few, h.1))

-- ---- from the first point on

record FromFirst (d t : ℕ) (p : ℤ × ℤ) (x y : ℤ) : Type 0 where
  pub rising : Climbs d t p.0 p.1 x y
  pub falling : NearlyClimbs d t p.0 y x p.1

from_first : (d t : ℕ) (points : List (ℤ × ℤ)) (p : ℤ × ℤ) (x : ℤ) → 0 < d → RiseFrom p points → rise_from p points d ≤ t → p.0 ≤ℤ x → FromFirst d t p x (value_from p points x)
from_first d t [] p x moves rises most above =
    let far = times_positive t p.0 x above in
    record { rising = omega (arith, ints, far); falling = omega (arith, ints, far, moves) }
from_first d t (q ∷ points) p x moves rises most above =
    by_lt_z x q.0
    (λ before.
    let here = along d t moves p q rises.0 first x above (omega (arith, ints, before)) in
    subst (FromFirst d t p x) (sym (on_piece p q points x rises.0 above before)) (record { rising = here.up_from; falling = here.down_from }))
    (λ past.
    let rest = from_first d t points q x moves rises.1 others past in
    let up_there = climbs d t moves p q rises.0 first in
    let down_there = falls d t moves p q rises.0 first in
    subst (FromFirst d t p x) (sym (after_piece p q points x rises.0 past)) (joined p.0 p.1 q.0 q.1 x (value_from q points x) up_there down_there rest.rising rest.falling))
  where
    first : rise_of p q d ≤ t
    first = omega (arith, most)

    others : rise_from q points d ≤ t
    others = omega (arith, most)

    joined : (a b c e x y : ℤ) → Climbs d t a b c e → Climbs d t a e c b → Climbs d t c e x y → NearlyClimbs d t c y x e → FromFirst d t (a, b) x y
    joined a b c e x y one two three four = record { rising = omega (arith, ints, one, three); falling = omega (arith, ints, two, four) }

-- a way that nearly rises by t over d, and goes no further than d
close : (d t : ℕ) (v a w b : ℤ) → 0 < d → NearlyClimbs d t v a w b → w ≤ℤ (v +ℤ pos d) → b ≤ℤ (a +ℤ pos t)
close d t v a w b moves rise near =
    let way : up w + down v ≤ up v + down w + d = omega (arith, ints, near) in
    let ways = mul-le-mul_left t way in
    let below : up b + down a ≤ up a + down b + t = at_most (up b + down a) (up a + down b + t) (λ more.
    let far = mul-le-mul_left d more in
    omega (arith, ints, rise, far, ways, moves)) in
    omega (arith, ints, below)

-- ---- two numbers

clamped : (p q : ℤ × ℤ) (points : List (ℤ × ℤ)) (x : ℤ) → p.0 <ℤ q.0 → x <ℤ q.0 → value_from p (q ∷ points) x ≡ value_along p q (int_max x p.0)
clamped p q points x rises below =
    by_lt_z x p.0
    (λ out.
    let is : p.0 ≡ int_max x p.0 = omega (arith, ints, clamps, out) in
    before_first p (q ∷ points) x (omega (arith, ints, out)) ∙ sym (at_left p q rises) ∙ ap (value_along p q) is)
    (λ in'.
    let is : x ≡ int_max x p.0 = omega (arith, ints, clamps, in') in
    on_piece p q points x rises in' below ∙ ap (value_along p q) is)

near_from : (d t : ℕ) (points : List (ℤ × ℤ)) (p : ℤ × ℤ) (v w : ℤ) → 0 < d → RiseFrom p points → rise_from p points d ≤ t → v ≤ℤ w → w ≤ℤ (v +ℤ pos d) → IsNear (pos t) (value_from p points v) (value_from p points w)
near_from d t [] p v w moves rises most order near = (omega (arith, ints), omega (arith, ints))
near_from d t (q ∷ points) p v w moves rises most order near =
    by_lt_z w q.0 both (λ past. by_lt_z v q.0 (λ before. across before past) (λ after. later (near_from d t points q v w moves rises.1 (omega (arith, most)) order near) after past))
  where
    first : rise_of p q d ≤ t
    first = omega (arith, most)

    others : rise_from q points d ≤ t
    others = omega (arith, most)

    both : w <ℤ q.0 → IsNear (pos t) (value_from p (q ∷ points) v) (value_from p (q ∷ points) w)
    both before =
        let apart : IsNear (pos d) (int_max v p.0) (int_max w p.0) = (omega (arith, ints, clamps, order, near), omega (arith, ints, clamps, order, near)) in
        subst₂ (λ (y z : ℤ). IsNear (pos t) y z)
        (sym (clamped p q points v rises.0 (omega (arith, ints, order, before))))
        (sym (clamped p q points w rises.0 before))
        (near_along d t moves p q rises.0 first (int_max v p.0) (int_max w p.0) apart)

    across : v <ℤ q.0 → q.0 ≤ℤ w → IsNear (pos t) (value_from p (q ∷ points) v) (value_from p (q ∷ points) w)
    across before past =
        let rise : p.0 <ℤ q.0 = rises.0 in
        let here = along d t moves p q rise first (int_max v p.0) (omega (arith, ints, clamps)) (omega (arith, ints, clamps, before, rise)) in
        let there = from_first d t points q w moves rises.1 others past in
        let way : w ≤ℤ (int_max v p.0 +ℤ pos d) = omega (arith, ints, clamps, near) in
        let a : ℤ = value_along p q (int_max v p.0) in
        let b : ℤ = value_from q points w in
        subst₂ (λ (y z : ℤ). IsNear (pos t) y z)
        (sym (clamped p q points v rise before))
        (sym (after_piece p q points w rise past))
        (bound (int_max v p.0) a q.0 q.1 w b here.up_to here.down_to there.rising there.falling way)
      where
        bound : (v a c e w b : ℤ) → NearlyClimbs d t v a c e → Climbs d t v e c a → Climbs d t c e w b → NearlyClimbs d t c b w e → w ≤ℤ (v +ℤ pos d) → IsNear (pos t) a b
        bound v a c e w b one two three four way =
            let up_all : NearlyClimbs d t v a w b = omega (arith, ints, one, three) in
            let down_all : NearlyClimbs d t v b w a = omega (arith, ints, two, four) in
            (close d t v b w a moves down_all way, close d t v a w b moves up_all way)

    later : IsNear (pos t) (value_from q points v) (value_from q points w) → q.0 ≤ℤ v → q.0 ≤ℤ w → IsNear (pos t) (value_from p (q ∷ points) v) (value_from p (q ∷ points) w)
    later rest after past =
        subst₂ (λ (y z : ℤ). IsNear (pos t) y z)
        (sym (after_piece p q points v rises.0 after))
        (sym (after_piece p q points w rises.0 past))
        rest

turned_round : (r x y : ℤ) → IsNear r x y → IsNear r y x
turned_round r x y near = (near.1, near.0)

pub near_lookup : (points : List (ℤ × ℤ)) (d : ℕ) (v w : ℤ) → IsCurve points → IsNear (pos d) v w → IsNear (pos (greatest_rise points d)) (curve_value points v) (curve_value points w)
near_lookup [] d v w curve near = (omega (arith, ints), omega (arith, ints))
near_lookup (p ∷ points) zero v w curve near =
    let same : v ≡ w = omega (arith, ints, near.0, near.1) in
    subst (λ (z : ℤ). IsNear (pos (rise_from p points 0)) (value_from p points v) (value_from p points z)) same (self (rise_from p points 0) (value_from p points v))
  where
    self : (n : ℕ) (z : ℤ) → IsNear (pos n) z z
    self n z = (omega (arith, ints), omega (arith, ints))
near_lookup (p ∷ points) (suc d) v w curve near =
    let t : ℕ = rise_from p points (suc d) in
    by_lt_z v w
    (λ before. near_from (suc d) t points p v w (omega arith) curve.rising (omega arith) (omega (arith, ints, before)) near.1)
    (λ after. turned_round (pos t) (value_from p points w) (value_from p points v) (near_from (suc d) t points p w v (omega arith) curve.rising (omega arith) after near.0))
