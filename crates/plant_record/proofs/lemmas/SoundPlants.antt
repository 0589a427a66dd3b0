-- A plant is sound.
use Rattle.std.proofs.Common.{ℕ, List}
use Rattle.std.specs.List.{All}
use Rattle.std.proofs.lemmas.List.Elements.{All-weaker}
use Rattle.fixed_expr.specs.Expression.{Expression, NumExpr, VarExpr, NegExpr, AddExpr, SubExpr, MulExpr, DivExpr, MinExpr, MaxExpr, AbsExpr, LutExpr}
use Rattle.fixed_expr.specs.Value.{IsWellFormed}
use Rattle.plant_record.specs.Description.{Description}
use Rattle.plant_record.specs.Variables.{IsStateVariable}
use Rattle.plant_record.specs.Equations.{HasLiterals, IsEquation}
use Rattle.plant_record.specs.Plants.{IsPlant}
use Rattle.plant_record.specs.Soundness.{IsFilledByCells, IsSound}
use Rattle.plant_record.proofs.lemmas.Axes.{axes_are, end_is}

pub well_formed : (m : ℕ) (e : Expression) → HasLiterals m e → IsWellFormed e m
well_formed m (NumExpr k) h = tt
well_formed m (VarExpr i) h = h
well_formed m (NegExpr a) h = well_formed m a h
well_formed m (AddExpr a b) h = (well_formed m a h.0, well_formed m b h.1)
well_formed m (SubExpr a b) h = (well_formed m a h.0, well_formed m b h.1)
well_formed m (MulExpr a b) h = (well_formed m a h.0, well_formed m b h.1)
well_formed m (DivExpr a k) h = (well_formed m a h.0, h.1)
well_formed m (MinExpr a b) h = (well_formed m a h.0, well_formed m b h.1)
well_formed m (MaxExpr a b) h = (well_formed m a h.0, well_formed m b h.1)
well_formed m (AbsExpr a) h = well_formed m a h
well_formed m (LutExpr a points) h = (well_formed m a h.0, h.1)

pub all_formed : (m : ℕ) (equations : List Expression) → All (IsEquation m) equations → All (λ e. IsWellFormed e m) equations
all_formed m equations each = All-weaker (IsEquation m) (λ e. IsWellFormed e m) (λ e h. well_formed m e h.literals) equations each

pub sound : (p : Description) → IsPlant p → IsSound p
sound p h = record {
  axes = axes_are p.states h.some_state h.states_bound h.states;
  whole = All-weaker IsStateVariable IsFilledByCells end_is p.states h.states;
  noises = h.noises;
  one_each = h.one_each;
  formed = all_formed _ p.equations h.equations;
}
