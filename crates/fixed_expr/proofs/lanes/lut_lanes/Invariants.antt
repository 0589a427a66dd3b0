use Rattle.fixed_expr.specs.Curves.{curve_value}
use Rattle.fixed_expr.specs.Lanes.{at}
use Rattle.fixed_expr.specs.inside.Progress.{AreDone}
use Rattle.fixed_expr.proofs.lanes.lut_lanes.Given as goal

abbrev pub invariant-lanes : goal.invariant-lanes
invariant-lanes l = AreDone l.k l.initial.found l.found (λ k. curve_value l.curve (at l.initial.found k))
