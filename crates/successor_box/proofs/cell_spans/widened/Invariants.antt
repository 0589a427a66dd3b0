use Rattle.std.proofs.Common.{◌≡◌, ℕ, ◌<◌, length, get_or}
use Rattle.interval_eval.specs.LaneSpans.{interval_in}
use Rattle.successor_box.specs.inside.Area.{no_range}
use Rattle.successor_box.proofs.cell_spans.widened.Given as goal

-- the intervals so far
abbrev pub invariant-loop-j : goal.invariant-loop-j
invariant-loop-j l = record { long : length l.wide ≡ 32; each : (i : ℕ) → i < l.j → get_or l.wide i no_range ≡ interval_in l.narrow i }
