-- A test that is asked of the corners of a box, and of its cells.
use Rattle.std.proofs.Common.{◌≡◌, ◌≢◌, ℕ, ◌+◌, ◌-◌, ◌<◌, ◌≤◌, List, [], All, length, get_or, Option, Some, None, refl, ap, subst, ◌∙◌, arith}
use Rattle.std.specs.Prelude.{IfSome}
use Rattle.std.proofs.lemmas.List.{length-map}
use Rattle.grid_quantiser.specs.declared.axis.Axis.{Axis}
use Rattle.grid_quantiser.specs.declared.boxes.CellBox.{CellBox}
use Rattle.grid_quantiser.specs.Axes.{cells_of, AreAxes}
use Rattle.grid_quantiser.specs.CellBoxes.{IsCellBox, cells_between}
use Rattle.grid_quantiser.proofs.BoxCells.{corners_below}
use Rattle.game_core.specs.declared.game.Mark.{Mark}
use Rattle.game_core.specs.Game.{pairs_of, successors_at}
use Rattle.successor_box.specs.SuccessorBoxes.{cells_in}
use Rattle.pair_box.specs.PlantBoxes.{box_at}
use Rattle.plant_game.specs.BoxGame.{box_game, IsBox, IsBoxGraph}
use Rattle.plant_game.proofs.BoxCorners.{some_cell, first_corner, last_corner}
use Rattle.plant_game.proofs.BoxGames.{box_cells, successors_are}
use Rattle.source_lists.specs.declared.shapes.Shapes.{Shapes}
use Rattle.source_lists.specs.Shapes.{EndsBy, segments_at, HasSegmentsOf, EachBoxHasSegments, cells_listed, IsListedBox}
use Rattle.source_lists.proofs.Segments.{segments_end}

-- the cells of a box are those of its segments
pub listed_cells : (axes : List Axis) (s : Shapes) (o : Option CellBox) → IfSome o (HasSegmentsOf axes s) → cells_in axes o ≡ cells_listed s o
listed_cells axes s None has = refl
listed_cells axes s (Some b) has = has.cells

module _ (axes : List Axis) (o : Option CellBox) (b : CellBox) (is : o ≡ Some b) (grid : AreAxes axes) (ordered : IsBox axes o) where
  abbrev cells : List ℕ
  cells = cells_in axes o

  cells_are : cells ≡ cells_between axes b.first b.last
  cells_are = ap (cells_in axes) is

  corners : IsCellBox axes b.first b.last
  corners = subst (IsBox axes) is ordered

  some : 1 ≤ length cells
  some = omega (arith, some_cell axes b.first b.last grid corners, ap length cells_are)

  pub has_cells : cells ≢ []
  has_cells none = absurd (omega (arith, some, ap length none))

  -- what passes at all cells passes at the corners
  pub first_passes : (P : ℕ → Type 0) → All P cells → P b.first
  first_passes P all = subst P (ap (λ xs. get_or xs 0 0) cells_are ∙ first_corner axes b.first b.last grid corners) (all 0 0 some)

  pub last_passes : (P : ℕ → Type 0) → All P cells → P b.last
  last_passes P all =
      let at : length cells - 1 + 1 ≡ length (cells_between axes b.first b.last) = omega (arith, some, ap length cells_are) in
      subst P (ap (λ xs. get_or xs (length cells - 1) 0) cells_are ∙ last_corner axes b.first b.last grid corners (length cells - 1) at) (all (length cells - 1) 0 (omega (arith, some)))

  pub corners_are_cells : (b.first < cells_of axes) × (b.last < cells_of axes)
  corners_are_cells = corners_below axes b.first b.last grid.each grid.some_state corners

  module _ (s : Shapes) (has : IfSome o (HasSegmentsOf axes s)) where
    pub segments_end_below : All (EndsBy (cells_of axes) b.first) (segments_at s (b.last - b.first))
    segments_end_below =
        let here : HasSegmentsOf axes s b = subst (λ (o : Option CellBox). IfSome o (HasSegmentsOf axes s)) is has in
        segments_end (cells_of axes) b.first (segments_at s (b.last - b.first)) here.some (subst (All (λ c. c < cells_of axes)) (cells_are ∙ here.cells) (box_cells axes o grid ordered).within)

-- a box of a game that is a graph is listed, and its cells are the successors of its pair
module _ (axes : List Axis) (inputs : ℕ) (marks : List Mark) (boxes : List (Option CellBox)) (held : IsBoxGraph axes inputs marks boxes) (s : Shapes) (listed : EachBoxHasSegments axes s boxes) (pair : ℕ) (below : pair < pairs_of (box_game axes inputs marks boxes)) where
  inside : pair < length boxes
  inside = omega (arith, below, held.graph.game.one_list_each, length-map boxes (cells_in axes))

  pub listed_box : (cells : ℕ) → cells ≡ cells_of axes → IsListedBox s cells (box_at boxes pair)
  listed_box cells all = record { axes = axes; grid = held.grid; all_cells = all; ordered = held.ordered pair None inside; segments = listed pair None inside }

  pub successors_listed : successors_at (box_game axes inputs marks boxes) pair ≡ cells_listed s (box_at boxes pair)
  successors_listed = successors_are axes inputs marks boxes pair ∙ listed_cells axes s (box_at boxes pair) (listed pair None inside)
