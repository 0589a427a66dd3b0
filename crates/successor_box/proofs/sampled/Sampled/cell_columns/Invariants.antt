use Rattle.std.proofs.Common.{◌≡◌, ℕ, ◌<◌, length, get_or}
use Rattle.successor_box.specs.inside.Lines.{no_column, HoldCellRanges}
use Rattle.successor_box.proofs.sampled.Sampled.cell_columns.Given as goal

-- the columns so far
abbrev pub invariant-loop-k : goal.invariant-loop-k
invariant-loop-k l = record {
  long : length l.area ≡ 15;
  each : (i : ℕ) → i < l.k → HoldCellRanges l.self.plant.now l.at i (get_or l.area i no_column);
}
