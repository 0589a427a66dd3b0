use Rattle.std.proofs.Common.{◌≡◌, ℕ, ◌<◌, length, get_or}
use Rattle.std.specs.Prelude.{pos}
use Rattle.successor_box.specs.SuccessorBoxes.{central_values}
use Rattle.successor_box.specs.inside.Lines.{HasIndexIn}
use Rattle.successor_box.proofs.cell_line.CellLine.new.Given as goal

-- the values so far
abbrev pub invariant-loop-k : goal.invariant-loop-k
invariant-loop-k l = record {
  long : length l.values ≡ 15;
  each : (i : ℕ) → i < l.k → (c u : ℕ) → HasIndexIn l.p l.indices i c u → get_or l.values i (pos 0) ≡ get_or (central_values l.p c u) i (pos 0);
}
