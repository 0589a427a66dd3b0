use Rattle.std.proofs.Common.{◌≡◌, ℕ, ◌+◌, ◌*◌, ◌<◌, ◌≤◌, List, length, get_or, Option, None}
use Rattle.std.specs.Prelude.{IfSome}
use Rattle.grid_quantiser.specs.declared.boxes.CellBox.{CellBox}
use Rattle.plant_record.specs.Description.{vectors_of}
use Rattle.successor_box.specs.CellLines.{AreCellsOn, HaveCentresOf}
use Rattle.successor_box.specs.AdditiveInputs.{IsAdditiveLineOf}
use Rattle.pair_boxes.specs.inside.CellLines.{AreCellsFrom, AreSumsOfCells, last_state}
use Rattle.pair_boxes.specs.inside.Terms.{IsSumAlong}
use Rattle.pair_boxes.proofs.per_pair.add_per_pair.Given as goal

-- the boxes under the first inputs have their terms, and the others are as they were
abbrev pub invariant-loop-input : goal.invariant-loop-input
invariant-loop-input l = record {
  long : length l.boxes ≡ length l.fn.boxes;
  cells : length l.extents ≡ l.cells;
  additive : (cell : ℕ → ℕ) → AreCellsOn l.of.sampled.plant.now l.indices (last_state l.of.sampled.plant.now) l.cells cell → IfSome l.additive (IsAdditiveLineOf l.of.sampled.plant.now cell l.of.state);
  centres : HaveCentresOf l.of.sampled.plant.now l.indices (last_state l.of.sampled.plant.now) l.cells l.line;
  added : (bases : List (Option CellBox)) (c n : ℕ) → AreCellsFrom l.of.sampled.plant.now l.indices c n → AreSumsOfCells l.of.sampled.plant.now l.of.state c n bases l.fn.boxes → (k u : ℕ) → k < n → u < l.input → IsSumAlong l.of.sampled.plant.now (l.of.state + 1) (c + k) u (get_or bases k None) (get_or l.boxes (k * vectors_of l.of.sampled.plant.now.inputs + u) None);
  left : (k u : ℕ) → l.input ≤ u → u < vectors_of l.of.sampled.plant.now.inputs → get_or l.boxes (k * vectors_of l.of.sampled.plant.now.inputs + u) None ≡ get_or l.fn.boxes (k * vectors_of l.of.sampled.plant.now.inputs + u) None;
}
