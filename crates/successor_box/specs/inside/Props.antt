-- Facts on a plant are propositions, so a struct may keep them.
use Rattle.std.specs.Prelude.{ℕ, ℤ, pos, ◌≤ℤ◌, List, [], ◌∷◌}
use Rattle.std.specs.List.{AllZip}
use Rattle.std.specs.Coded.{×_prop, Unit-prop, le_prop}
use Rattle.std.proofs.Props.{props}
use Rattle.fixed_expr.specs.Curves.{CurvePoint, RiseFrom, Rise, IsCurve}
use Rattle.fixed_expr.specs.Expression.{Expression, NumExpr, VarExpr, NegExpr, AddExpr, SubExpr, MulExpr, DivExpr, MinExpr, MaxExpr, AbsExpr, LutExpr}
use Rattle.fixed_expr.proofs.EachNode.{three_prop, AllNodes-prop}
use Rattle.interval_eval.specs.declared.interval.Interval.{Interval}
use Rattle.interval_eval.specs.Span.{EndsFit, SpanFits, SpanStaysInRange, span_of}
use Rattle.growth_bound.specs.Deviation.{DeviationFits, DeviationStaysInRange}
use Rattle.plant_record.specs.Description.{Description}
use Rattle.plant_record.specs.Equations.{HasLiterals, HasNoLut}
use Rattle.plant_record.specs.Limits.{IsWithinLimits}
use Rattle.plant_record.specs.StateBoxes.{AreEnds}
use Rattle.successor_box.specs.Deviations.{HasNoOverflow}

at_least_prop : (k : ℤ) → IsProp (pos 1 ≤ℤ k)
at_least_prop k = Prim.hlevel props

RiseFrom-prop : (p : CurvePoint) (points : List CurvePoint) → IsProp (RiseFrom p points)
RiseFrom-prop p [] = Unit-prop
RiseFrom-prop p (q ∷ points) = ×_prop (Prim.hlevel props) (RiseFrom-prop q points)

Rise-prop : (points : List CurvePoint) → IsProp (Rise points)
Rise-prop [] = Unit-prop
Rise-prop (p ∷ points) = RiseFrom-prop p points

IsCurve-prop : (points : List CurvePoint) → IsProp (IsCurve points)
IsCurve-prop points = Prim.hlevel (props, Rise-prop)

HasLiterals-prop : (m : ℕ) (e : Expression) → IsProp (HasLiterals m e)
HasLiterals-prop m (NumExpr k) = Prim.hlevel props
HasLiterals-prop m (VarExpr i) = le_prop
HasLiterals-prop m (NegExpr a) = HasLiterals-prop m a
HasLiterals-prop m (AddExpr a b) = ×_prop (HasLiterals-prop m a) (HasLiterals-prop m b)
HasLiterals-prop m (SubExpr a b) = ×_prop (HasLiterals-prop m a) (HasLiterals-prop m b)
HasLiterals-prop m (MulExpr a b) = ×_prop (HasLiterals-prop m a) (HasLiterals-prop m b)
HasLiterals-prop m (DivExpr a k) = three_prop (HasLiterals-prop m a) (at_least_prop k) le_prop
HasLiterals-prop m (MinExpr a b) = ×_prop (HasLiterals-prop m a) (HasLiterals-prop m b)
HasLiterals-prop m (MaxExpr a b) = ×_prop (HasLiterals-prop m a) (HasLiterals-prop m b)
HasLiterals-prop m (AbsExpr a) = HasLiterals-prop m a
HasLiterals-prop m (LutExpr a points) = ×_prop (HasLiterals-prop m a) (IsCurve-prop points)

HasNoLut-prop : (e : Expression) → IsProp (HasNoLut e)
HasNoLut-prop (NumExpr k) = Unit-prop
HasNoLut-prop (VarExpr i) = Unit-prop
HasNoLut-prop (NegExpr a) = HasNoLut-prop a
HasNoLut-prop (AddExpr a b) = ×_prop (HasNoLut-prop a) (HasNoLut-prop b)
HasNoLut-prop (SubExpr a b) = ×_prop (HasNoLut-prop a) (HasNoLut-prop b)
HasNoLut-prop (MulExpr a b) = ×_prop (HasNoLut-prop a) (HasNoLut-prop b)
HasNoLut-prop (DivExpr a k) = HasNoLut-prop a
HasNoLut-prop (MinExpr a b) = ×_prop (HasNoLut-prop a) (HasNoLut-prop b)
HasNoLut-prop (MaxExpr a b) = ×_prop (HasNoLut-prop a) (HasNoLut-prop b)
HasNoLut-prop (AbsExpr a) = HasNoLut-prop a
HasNoLut-prop (LutExpr a points) = Prim.hlevel props

AreAllEnds-prop : (lows highs : List ℤ) → IsProp (AllZip AreEnds lows highs)
AreAllEnds-prop [] [] = Unit-prop
AreAllEnds-prop [] (h ∷ highs) = Prim.hlevel props
AreAllEnds-prop (l ∷ lows) [] = Prim.hlevel props
AreAllEnds-prop (l ∷ lows) (h ∷ highs) = ×_prop (Prim.hlevel props) (AreAllEnds-prop lows highs)

pub IsWithinLimits-prop : (p : Description) → IsProp (IsWithinLimits p)
IsWithinLimits-prop p = Prim.hlevel (props, HasLiterals-prop, HasNoLut-prop, AreAllEnds-prop)

EndsFit-prop : (i : Interval) → IsProp (EndsFit i)
EndsFit-prop i = Prim.hlevel props

SpanStaysInRange-prop : (e : Expression) (area : List Interval) → IsProp (SpanStaysInRange e area)
SpanStaysInRange-prop e area = AllNodes-prop SpanFits area (λ node. EndsFit-prop (span_of node area)) e

DeviationStaysInRange-prop : (e : Expression) (area : List Interval) (radii : List ℤ) → IsProp (DeviationStaysInRange e area radii)
DeviationStaysInRange-prop e area radii = AllNodes-prop DeviationFits (area, radii) (λ node. le_prop) e

pub HasNoOverflow-prop : (p : Description) → IsProp (HasNoOverflow p)
HasNoOverflow-prop p = Prim.hlevel (props, SpanStaysInRange-prop, DeviationStaysInRange-prop)
