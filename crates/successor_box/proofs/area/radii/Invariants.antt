use Rattle.std.proofs.Common.{◌≡◌, ℕ, length, take}
use Rattle.successor_box.specs.SuccessorBoxes.{radii_of}
use Rattle.successor_box.proofs.area.radii.Given as goal

-- the radii so far
abbrev pub invariant-loop-k : goal.invariant-loop-k
invariant-loop-k l = record { count : length l.radii ≡ 15; filled : (u : ℕ) → take l.k l.radii ≡ take l.k (radii_of l.p u) }
