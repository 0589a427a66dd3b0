use Rattle.std.proofs.Common.{rules}
use Rattle.fixed_expr.proofs.LaneSteps.{one_lane_more}
use Rattle.fixed_expr.proofs.lanes.add_lanes.Goals as goal

pub lanes-preserved : goal.lanes-preserved
lanes-preserved c = one_lane_more _ _ _ _ c.in_ok-found.field-0 c.lanes-test.true c.lanes.invariant (search rules) (search rules)
