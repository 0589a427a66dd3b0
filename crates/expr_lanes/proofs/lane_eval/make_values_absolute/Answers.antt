use Rattle.std.proofs.Common.{rules}
use Rattle.expr_lanes.proofs.lane_eval.make_values_absolute.Goals as goal

pub returns-in_err-abs_lanes-in-Listed : goal.returns-in_err-abs_lanes-in-Listed
returns-in_err-abs_lanes-in-Listed c = rw c.in-Listed.is (search rules)
