use Rattle.std.proofs.Common.{◌≡◌, ℕ, ◌<◌, length, get_or}
use Rattle.std.specs.Prelude.{pos}
use Rattle.fixed_expr.specs.Expression.{expression_of}
use Rattle.fixed_expr.specs.Value.{value_of}
use Rattle.expr_lanes.specs.LaneEval.{lane_of}
use Rattle.successor_box.proofs.line_extents.values_one_by_one.Given as goal

-- the values so far
abbrev pub invariant-loop-j : goal.invariant-loop-j
invariant-loop-j l = record { long : length l.values ≡ 32; each : (i : ℕ) → i < l.j → get_or l.values i (pos 0) ≡ value_of (expression_of l.e) (lane_of l.at i) }
