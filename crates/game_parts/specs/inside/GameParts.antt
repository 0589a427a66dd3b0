-- The boxes of some cells of a plant, and what was found at these cells.
use Rattle.std.specs.Prelude.{◌≡◌, ℕ, ◌+◌, ◌-◌, ◌*◌, ◌<◌, ◌≤◌, min, List, length, Option}
use Rattle.grid_quantiser.specs.declared.boxes.CellBox.{CellBox}
use Rattle.grid_quantiser.specs.Axes.{cells_of}
use Rattle.game_core.specs.declared.game.Mark.{Mark}
use Rattle.game_core.specs.Game.{Game, successors_at}
use Rattle.plant_record.specs.Description.{Description, axes_of, vectors_of}
use Rattle.successor_box.specs.SuccessorBoxes.{cells_in}
use Rattle.pair_box.specs.PlantBoxes.{pair_of_plant, box_at}
use Rattle.pair_boxes.specs.CellsFrom.{AreBoxesFrom}
use Rattle.pair_boxes.specs.declared.box_finder.BoxFinder.{BoxFinder}
use Rattle.pair_boxes.specs.Finders.{plant_of}
use Rattle.game_parts.specs.declared.game_part.GamePart.{GamePart}
use Rattle.game_parts.specs.declared.part_search.PartFinding.{PartFinding}
use Rattle.plant_game.specs.BoxGame.{box_game, edges_of}
use Rattle.game_core.specs.Judging.{IsFirstFailure}
use Rattle.game_parts.specs.inside.Padded.{padded}
use Rattle.base.specs.declared.limits.TheConstants.{EDGES_LIMIT}

-- the game in which only the pairs with these boxes are enabled
abbrev pub part_game : GamePart → Game
part_game part = box_game part.grid part.inputs part.marks.now (padded part.first part.boxes.now (cells_of part.grid * part.inputs))

-- how many cells the plant has whose boxes are found
abbrev pub cells_for : BoxFinder → ℕ
cells_for finder = cells_of (axes_of (plant_of finder))

-- how many input vectors it has
abbrev pub inputs_for : BoxFinder → ℕ
inputs_for finder = vectors_of (plant_of finder).inputs

-- A game has a plant's cells, inputs and these marks, and from the first pair of a cell on its successors are the cells of these boxes.
pub record HasBoxesFrom (p : Description) (marks : List Mark) (from : ℕ) (boxes : List (Option CellBox)) (g : Game) : Type 0 where
  pub cells : g.cells ≡ cells_of (axes_of p)
  pub inputs : g.inputs ≡ vectors_of p.inputs
  pub marks_are : g.marks ≡ marks
  pub successors : (k : ℕ) → k < length boxes → successors_at g (pair_of_plant p from k) ≡ cells_in (axes_of p) (box_at boxes k)

-- in each game with these boxes the cell is the first, from one up to another, of which a fact doesn't hold
abbrev pub HaveFirst : Description → List Mark → (Game → ℕ → Type 0) → ℕ → ℕ → List (Option CellBox) → Option ℕ → Type 0
HaveFirst p marks Fact from to boxes found = (g : Game) → HasBoxesFrom p marks from boxes g → IsFirstFailure (Fact g) from to found

-- What was found at the cells of a plant from one up to another: how many edges they have, and if these aren't too many the first cell
-- of which a fact doesn't hold.
pub record IsFindingOf (p : Description) (marks : List Mark) (Fact : Game → ℕ → Type 0) (from to edges : ℕ) (first : Option ℕ) : Type 0 where
  pub boxes : List (Option CellBox)
  pub long : length boxes ≡ (to - from) * vectors_of p.inputs
  pub each : AreBoxesFrom p from boxes
  pub edges_are : edges ≡ edges_of (axes_of p) boxes
  pub first_is : edges ≤ EDGES_LIMIT → HaveFirst p marks Fact from to boxes first

-- what was found at the cells of a finder's plant from one up to another
abbrev pub IsFound : BoxFinder → List Mark → (Game → ℕ → Type 0) → ℕ → ℕ → PartFinding → Type 0
IsFound finder marks Fact from to found = IsFindingOf (plant_of finder) marks Fact from to found.edges found.first

-- at those of the part of a number, where of the cells each part has so many
abbrev pub IsFoundIn : BoxFinder → List Mark → (Game → ℕ → Type 0) → ℕ → ℕ → ℕ → PartFinding → Type 0
IsFoundIn finder marks Fact cells size k = IsFound finder marks Fact (k * size) (min cells (k * size + size))
