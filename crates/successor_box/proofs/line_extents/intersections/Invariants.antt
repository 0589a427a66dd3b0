use Rattle.std.proofs.Common.{◌≡◌, ℕ, ◌<◌, length, get_or}
use Rattle.successor_box.specs.SuccessorBoxes.{intersection_of}
use Rattle.successor_box.specs.inside.Area.{no_range}
use Rattle.successor_box.proofs.line_extents.intersections.Given as goal

-- the intervals so far
abbrev pub invariant-loop-j : goal.invariant-loop-j
invariant-loop-j l = record { long : length l.intersections ≡ 32; each : (i : ℕ) → i < l.j → get_or l.intersections i no_range ≡ intersection_of (get_or l.first i no_range) (get_or l.second i no_range) }
