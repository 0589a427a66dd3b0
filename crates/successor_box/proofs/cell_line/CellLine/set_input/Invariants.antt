use Rattle.std.proofs.Common.{◌≡◌, ℕ, ◌+◌, ◌<◌, length, get_or}
use Rattle.std.specs.Prelude.{pos}
use Rattle.plant_record.specs.Description.{vector_of}
use Rattle.successor_box.specs.inside.Additive.{DifferInInputs}
use Rattle.successor_box.proofs.cell_line.CellLine.set_input.Given as goal

-- the values so far
abbrev pub invariant-loop-k : goal.invariant-loop-k
invariant-loop-k l = record {
  long : length l.self.values ≡ 15;
  along : l.self.along ≡ l.fn.self.along;
  column : l.self.column ≡ l.fn.self.column;
  set : (i : ℕ) → i < l.k → get_or l.self.values (length l.sampled.plant.now.states + i) (pos 0) ≡ get_or (vector_of l.sampled.plant.now.inputs l.input) i (pos 0);
  others : DifferInInputs l.sampled.plant.now l.self.values l.fn.self.values;
}
