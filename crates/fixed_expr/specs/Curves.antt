-- Piecewise-linear functions over whole numbers, each given by some points.
use Rattle.std.specs.Prelude.{◌<◌, ◌≤◌, ℤ, pos, nat_abs, ◌+ℤ◌, ◌-ℤ◌, ◌*ℤ◌, ◌<ℤ◌, int_lt, int_le, List, [], ◌∷◌, length, All, if◌then◌else◌}
use Rattle.fixed_expr.specs.DivExpr.{floor_div}
use Rattle.base.specs.declared.limits.TheConstants.{NUMBER_LIMIT, POINTS_LIMIT}

-- an argument, and the value there
abbrev pub CurvePoint : Type 0
CurvePoint = ℤ × ℤ

-- the arguments rise from one point to the next
abbrev pub RiseFrom : CurvePoint → List CurvePoint → Type 0
RiseFrom p [] = Unit {0}
RiseFrom p (q ∷ points) = (p.0 <ℤ q.0) × RiseFrom q points

-- each point has a greater argument than the point before it
abbrev pub Rise : List CurvePoint → Type 0
Rise [] = Unit {0}
Rise (p ∷ points) = RiseFrom p points

-- both numbers have at most 18 digits
abbrev pub IsShort : CurvePoint → Type 0
IsShort p = (nat_abs p.0 < NUMBER_LIMIT) × (nat_abs p.1 < NUMBER_LIMIT)

-- The points of a curve.
pub record IsCurve (points : List CurvePoint) : Type 0 where
  pub some : 2 ≤ length points
  pub few : length points ≤ POINTS_LIMIT
  pub rising : Rise points
  pub short : All IsShort points

-- from one point to the next, the floor of the straight line through both
abbrev pub value_along : CurvePoint → CurvePoint → ℤ → ℤ
value_along p q x = p.1 +ℤ floor_div ((q.1 -ℤ p.1) *ℤ (x -ℤ p.0)) (q.0 -ℤ p.0)

-- the value at a number: that of the first point before it, of the last after it
abbrev pub value_from : CurvePoint → List CurvePoint → ℤ → ℤ
value_from p [] x = p.1
value_from p (q ∷ points) x = if int_le x p.0 then p.1 else (if int_lt x q.0 then value_along p q x else value_from q points x)

-- the value of a curve at a number, 0 where the curve has no points
abbrev pub curve_value : List CurvePoint → ℤ → ℤ
curve_value [] x = pos 0
curve_value (p ∷ points) x = value_from p points x
