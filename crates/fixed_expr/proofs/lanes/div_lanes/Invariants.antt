use Rattle.std.proofs.Common.{pos}
use Rattle.fixed_expr.specs.DivExpr.{floor_div}
use Rattle.fixed_expr.specs.Lanes.{at}
use Rattle.fixed_expr.specs.inside.Progress.{AreDone}
use Rattle.fixed_expr.proofs.lanes.div_lanes.Given as goal

abbrev pub invariant-lanes : goal.invariant-lanes
invariant-lanes l = AreDone l.k l.initial.found l.found (λ k. floor_div (at l.initial.found k) (pos l.divisor))
