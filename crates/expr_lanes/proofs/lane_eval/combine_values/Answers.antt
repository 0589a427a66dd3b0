use Rattle.std.proofs.Common.{rules}
use Rattle.std.specs.Int.{w64}
use Rattle.std.specs.Prelude.{FitsSigned}
use Rattle.expr_lanes.specs.inside.LaneValues.{value_in}
use Rattle.expr_lanes.proofs.LaneValues.{lanes_hold, lanes_leave, alike_hold, alike_leave}
use Rattle.expr_lanes.proofs.lane_eval.combine_values.Goals as goal

pub returns-in-Alike-Alike : goal.returns-in-Alike-Alike
returns-in-Alike-Alike c =
    let x = c.in-Alike-Alike.x in
    let y = c.in-Alike-Alike.y in
    let first : FitsSigned w64 x = search rules in
    let second : FitsSigned w64 y = search rules in
    alike_hold c.args.binary c.args.left c.args.right c.args.found.now c.args.other.now x y c.in-Alike-Alike.is-0 c.in-Alike-Alike.is-1 first second c.in_ok-combine.field-0 c.in_ok-combine.ensures

pub returns-in_err-combine : goal.returns-in_err-combine
returns-in_err-combine c =
    let x = c.in-Alike-Alike.x in
    let y = c.in-Alike-Alike.y in
    let first : FitsSigned w64 x = search rules in
    let second : FitsSigned w64 y = search rules in
    rw c.from_residual.ensures (alike_leave c.args.binary c.args.left c.args.right c.args.found.now c.args.other.now x y c.in-Alike-Alike.is-0 c.in-Alike-Alike.is-1 first second c.in_err-combine.ensures)

pub returns-in_err-combine_lanes : goal.returns-in_err-combine_lanes
returns-in_err-combine_lanes c =
    rw c.from_residual-in_err-combine_lanes.ensures (lanes_leave c.args.binary (value_in c.args.left c.args.found.now) (value_in c.args.right c.args.other.now) c.list.new.lanes c.list-2.new.lanes c.list.ensures c.list-2.ensures c.in_err-combine_lanes.ensures)

pub returns : goal.returns
returns c =
    lanes_hold c.args.binary (value_in c.args.left c.args.found.now) (value_in c.args.right c.args.other.now) c.list.new.lanes c.list-2.new.lanes c.list.ensures c.list-2.ensures c.combine_lanes.new.found c.in_ok-combine_lanes.ensures
