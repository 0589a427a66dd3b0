use Rattle.std.specs.Int.{int_min}
use Rattle.fixed_expr.specs.Lanes.{at}
use Rattle.fixed_expr.specs.inside.Progress.{AreDone}
use Rattle.fixed_expr.proofs.lanes.min_lanes.Given as goal

abbrev pub invariant-lanes : goal.invariant-lanes
invariant-lanes l = AreDone l.k l.initial.found l.found (λ k. int_min (at l.initial.found k) (at l.other k))
