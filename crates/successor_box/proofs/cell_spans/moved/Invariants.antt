use Rattle.std.proofs.Common.{◌≡◌, ℕ, ◌<◌, length, get_or}
use Rattle.std.specs.Prelude.{pos, ◌+ℤ◌}
use Rattle.successor_box.proofs.cell_spans.moved.Given as goal

-- the numbers so far
abbrev pub invariant-loop-j : goal.invariant-loop-j
invariant-loop-j l = record { long : length l.moved ≡ 32; each : (i : ℕ) → i < l.j → get_or l.moved i (pos 0) ≡ get_or l.numbers i (pos 0) +ℤ l.by }
