use Rattle.std.proofs.Common.{◌≡◌, ◌+◌, ◌^◌, ◌<◌, ◌++◌, All, map, take, drop}
use Rattle.source_lists.proofs.intake.add_one.Given as goal

-- one is added to the counts so far, and the others have room
abbrev pub invariant-loop-count : goal.invariant-loop-count
invariant-loop-count l = record {
  capacity : All (λ count. count + 1 < 2 ^ 32) (drop l.count-index l.count-items);
  added : map (λ count. count + 1) l.fn.counts ≡ take l.count-index l.count-items ++ map (λ count. count + 1) (drop l.count-index l.count-items);
}
