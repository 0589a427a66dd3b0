use Rattle.std.specs.Prelude.{pos, nat_abs}
use Rattle.fixed_expr.specs.Lanes.{at}
use Rattle.fixed_expr.specs.inside.Progress.{AreDone}
use Rattle.fixed_expr.proofs.lanes.abs_lanes.Given as goal

abbrev pub invariant-lanes : goal.invariant-lanes
invariant-lanes l = AreDone l.k l.initial.found l.found (λ k. pos (nat_abs (at l.initial.found k)))
