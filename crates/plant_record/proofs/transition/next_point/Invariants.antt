use Rattle.std.proofs.Common.{◌≡◌, map, take}
use Rattle.std.specs.List.{All}
use Rattle.fixed_expr.specs.Expression.{expression_of}
use Rattle.fixed_expr.specs.Value.{StaysInRange, value_of}
use Rattle.grid_quantiser.specs.Cells.{point_of}
use Rattle.plant_record.proofs.transition.next_point.Given as goal

abbrev pub invariant-loop-i : goal.invariant-loop-i
invariant-loop-i l =
    All (λ e. StaysInRange (expression_of e) l.values) (take l.i l.equations)
    × (l.next ≡ point_of (map (λ e. value_of (expression_of e) l.values) (take l.i l.equations)))
