use Rattle.std.proofs.Common.{◌≡◌, ℕ, ◌<◌, length, get_or}
use Rattle.std.specs.Prelude.{pos}
use Rattle.successor_box.proofs.line_extents.widened.Given as goal

-- the numbers so far
abbrev pub invariant-loop-j : goal.invariant-loop-j
invariant-loop-j l = record { long : length l.wide ≡ 32; each : (i : ℕ) → i < l.j → get_or l.wide i (pos 0) ≡ get_or l.narrow i (pos 0) }
