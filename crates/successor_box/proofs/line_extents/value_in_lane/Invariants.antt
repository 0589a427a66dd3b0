use Rattle.std.proofs.Common.{◌≡◌, length, take}
use Rattle.successor_box.proofs.line_extents.value_in_lane.Given as goal

-- the values so far
abbrev pub invariant-loop-k : goal.invariant-loop-k
invariant-loop-k l = record { long : length l.values ≡ 15; filled : take l.k l.values ≡ take l.k l.at.values.now }
