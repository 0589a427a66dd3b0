use Rattle.std.specs.Prelude.{◌+ℤ◌}
use Rattle.fixed_expr.specs.Lanes.{at}
use Rattle.fixed_expr.specs.inside.Progress.{AreDone}
use Rattle.fixed_expr.proofs.lanes.add_lanes.Given as goal

abbrev pub invariant-lanes : goal.invariant-lanes
invariant-lanes l = AreDone l.k l.initial.found l.found (λ k. at l.initial.found k +ℤ at l.other k)
