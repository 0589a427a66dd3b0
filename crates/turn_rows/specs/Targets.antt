-- The targets of a plant by their numbers, one for each turn.
use Rattle.std.specs.Prelude.{ℕ, suc, ◌<◌, ◌%◌, [], length, slice_index_or}
use Rattle.grid_quantiser.specs.CellBoxes.{LiesInside}
use Rattle.plant_record.specs.declared.aims.StateBox.{StateBox}
use Rattle.plant_record.specs.Description.{Description, axes_of}
use Rattle.plant_record.specs.CellMarks.{IsObstacleCell}

-- the target of a number, in the order of the text
abbrev pub target_at : Description → ℕ → StateBox
target_at p j = slice_index_or p.targets j (record { low = []; high = [] })

-- all points of the cell lie in target j
abbrev pub LiesInTarget : Description → ℕ → ℕ → Type 0
LiesInTarget p j c = LiesInside (axes_of p) c (target_at p j).low (target_at p j).high

-- a cell that is no obstacle, all points of which lie in target j
abbrev pub IsInTarget : Description → ℕ → ℕ → Type 0
IsInTarget p j c = (j < length p.targets) × (IsObstacleCell p c → ⊥) × LiesInTarget p j c

-- the turn after a turn: the first follows the last
abbrev pub next_turn : ℕ → ℕ → ℕ
next_turn turns j = suc j % turns
