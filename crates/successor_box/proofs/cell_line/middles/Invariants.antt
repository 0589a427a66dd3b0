use Rattle.std.proofs.Common.{◌≡◌, ℕ, ◌-◌, ◌<◌, length, get_or}
use Rattle.std.specs.Prelude.{pos, min}
use Rattle.successor_box.specs.inside.Lines.{middle_after}
use Rattle.successor_box.proofs.cell_line.middles.Given as goal

-- the middles so far
abbrev pub invariant-loop-j : goal.invariant-loop-j
invariant-loop-j l = record { long : length l.middles ≡ 32; each : (i : ℕ) → i < l.j → get_or l.middles i (pos 0) ≡ middle_after l.first l.width l.index (min i (l.cells - 1)) }
