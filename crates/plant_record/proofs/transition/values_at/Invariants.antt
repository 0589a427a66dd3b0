use Rattle.std.proofs.Common.{◌≡◌, length, take}
use Rattle.plant_record.specs.Steps.{values_at}
use Rattle.plant_record.proofs.transition.values_at.Given as goal

-- the values so far
abbrev pub invariant-loop-k : goal.invariant-loop-k
invariant-loop-k l = record { count : length l.values ≡ 15; filled : take l.k l.values ≡ take l.k (values_at l.p l.x l.input l.noise) }
