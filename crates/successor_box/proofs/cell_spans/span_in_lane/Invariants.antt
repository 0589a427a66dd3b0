use Rattle.std.proofs.Common.{◌≡◌, length, take}
use Rattle.interval_eval.specs.LaneSpans.{area_in}
use Rattle.successor_box.proofs.cell_spans.span_in_lane.Given as goal

-- the ranges so far
abbrev pub invariant-loop-k : goal.invariant-loop-k
invariant-loop-k l = record { long : length l.area ≡ 15; filled : take l.k l.area ≡ take l.k (area_in l.columns l.j) }
