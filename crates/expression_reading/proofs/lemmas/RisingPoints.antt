-- Points that rise, by a test and by the arguments.
use Rattle.std.proofs.Common.{◌≡◌, ◌<◌, ◌≤◌, true, List, [], ◌∷◌, length, refl, arith}
use Rattle.std.specs.Prelude.{All, ℤ, int_lt}
use Rattle.std.proofs.lemmas.Bool.{and_parts, and_from}
use Rattle.fixed_expr.specs.Curves.{IsCurve, IsShort, Rise, RiseFrom}
use Rattle.expression_reading.specs.inside.ExpressionReading.{rises}
use Rattle.base.proofs.Integers.{less_from_int_lt, int_lt_from_less}

pub rising : (p : ℤ × ℤ) (points : List (ℤ × ℤ)) → RiseFrom p points → rises (p ∷ points) ≡ true
rising p [] h = refl
rising p (q ∷ points) h = and_from (int_lt p.0 q.0) (rises (q ∷ points)) (int_lt_from_less p.0 q.0 h.0) (rising q points h.1)

pub curve_rises : (points : List (ℤ × ℤ)) → Rise points → rises points ≡ true
curve_rises [] h = refl
curve_rises (p ∷ points) h = rising p points h

rise_from : (p : ℤ × ℤ) (points : List (ℤ × ℤ)) → rises (p ∷ points) ≡ true → RiseFrom p points
rise_from p [] e = tt
rise_from p (q ∷ points) e =
    let h = and_parts (int_lt p.0 q.0) (rises (q ∷ points)) e in
    (less_from_int_lt p.0 q.0 h.0, rise_from q points h.1)

pub rise : (points : List (ℤ × ℤ)) → rises points ≡ true → Rise points
rise [] e = tt
rise (p ∷ points) e = rise_from p points e

-- fewer than 2 points rise
pub short_rises : (points : List (ℤ × ℤ)) → length points < 2 → rises points ≡ true
short_rises [] few = refl
short_rises (p ∷ []) few = refl
short_rises (p ∷ q ∷ points) few = absurd (omega (arith, few))

-- 2 to 32 short points that rise are those of a curve
pub curve_is : (points : List (ℤ × ℤ)) → 2 ≤ length points → length points ≤ 32 → rises points ≡ true → All IsShort points → IsCurve points
curve_is points some few rising short = record { some = some; few = few; rising = rise points rising; short = short }
