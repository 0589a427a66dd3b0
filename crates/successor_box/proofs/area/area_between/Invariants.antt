use Rattle.std.proofs.Common.{◌≡◌, length, take}
use Rattle.successor_box.specs.inside.Area.{area_from}
use Rattle.successor_box.proofs.area.area_between.Given as goal

-- the ranges so far
abbrev pub invariant-loop-k : goal.invariant-loop-k
invariant-loop-k l = record { count : length l.area ≡ 15; filled : take l.k l.area ≡ take l.k (area_from l.p l.low l.high l.input) }
