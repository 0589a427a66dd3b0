-- What proofs of the crates above cite.
use Rattle.std.proofs.Common.{◌≡◌, List}
use Rattle.std.specs.Prelude.{ℤ, pos}
use Rattle.fixed_expr.specs.Expression.{Expression}
use Rattle.fixed_expr.specs.inside.Alike.{AreSameIn}
use Rattle.interval_eval.specs.declared.interval.Interval.{Interval}
use Rattle.growth_bound.specs.Deviation.{deviation_of}
use Rattle.growth_bound.proofs.Depending as depending
pub use Rattle.growth_bound.proofs.Moves.{values_move_by_deviations}

-- the deviation of an expression rests on the ranges and the radii of the variables that stand in it alone
pub deviations_depend_on_variables : (e : Expression) (area other : List Interval) (radii others : List ℤ) → AreSameIn (record { lo = pos 0; hi = pos 0 }) e area other → AreSameIn (pos 0) e radii others → deviation_of e area radii ≡ deviation_of e other others
deviations_depend_on_variables e area other radii others ranges near = depending.agree area other radii others e ranges near
