-- The marks and the boxes of a plant make its game.
use Rattle.std.proofs.Common.{◌≡◌, ℕ, ◌+◌, ◌/◌, ◌%◌, ◌<◌, ◌≤◌, List, [], All, Option, None, length, map, get_or, refl, sym, subst, ◌∙◌, arith, Some, ap, inl, inr}
use Rattle.std.specs.Prelude.{sum_by}
use Rattle.std.specs.List.Sorted.{IsStrictlyIncreasing}
use Rattle.std.proofs.lemmas.Option.{IfSome_then}
use Rattle.std.proofs.lemmas.List.{length-map, get_or_default, get_or_past, get_or-map}
use Rattle.std.proofs.lemmas.List.Elements.{All-map, All-weaker, All-from_get_or}
use Rattle.std.proofs.lemmas.List.Folds.{fold-map}
use Rattle.grid_quantiser.specs.declared.axis.Axis.{Axis}
use Rattle.grid_quantiser.specs.declared.boxes.CellBox.{CellBox}
use Rattle.grid_quantiser.specs.Axes.{AreAxes, cells_of}
use Rattle.game_core.specs.declared.game.Mark.{Mark}
use Rattle.game_core.specs.Game.{IsGame, successors_at}
use Rattle.plant_record.specs.Description.{Description, axes_of, vectors_of}
use Rattle.plant_record.specs.Limits.{IsWithinLimits}
use Rattle.successor_box.specs.SuccessorBoxes.{AreSuccessors, IsBoxOf, cells_in}
use Rattle.plant_game.specs.Abstraction.{IsGameOf, AreEdges}
use Rattle.pair_box.specs.PlantBoxes.{pairs_of_plant, pair_of_plant, box_at, AreBoxesOf}
use Rattle.plant_game.specs.BoxGame.{box_game, IsBox, IsBoxGraph, edges_of}
use Rattle.plant_game.specs.Marks.{AreMarksOf}
use Rattle.plant_record.proofs.lemmas.SoundPlants.{sound}
use Rattle.successor_box.proofs.Enabled.{box_successors}
use Rattle.plant_game.proofs.GameLaws.{pair_split}
use Rattle.grid_quantiser.specs.CellBoxes.{cells_between}
use Rattle.base.specs.declared.limits.TheConstants.{EDGES_LIMIT}
use Rattle.grid_quantiser.proofs.Suffixes.{some_cells}
use Rattle.grid_quantiser.specs.Laws.{BoxesHaveCells, AreRisingCells}
use Rattle.grid_quantiser.proofs.BetweenCells.{rising_between}
use Rattle.grid_quantiser.proofs.BoxCells.{between_limit, between_below}
use Rattle.std.proofs.lemmas.Bool.{cases_lt}

pub boxes_have_cells : BoxesHaveCells
boxes_have_cells axes first last grid box = record {
  rising = rising_between axes first last grid.each box;
  within = All-from_get_or (λ s. s < cells_of axes) (cells_between axes first last) 0 (λ i lt. between_below axes first last i grid.each box lt);
  few = between_limit axes first last box;
}

-- the cells of a box, or none, are few, rise, and are cells
pub box_cells : (axes : List Axis) (b : Option CellBox) → AreAxes axes → IsBox axes b → AreRisingCells axes (cells_in axes b)
box_cells axes None grid box = record { rising = λ k lt. absurd (omega (arith, lt)); within = λ k d lt. absurd (omega (arith, lt)); few = omega arith }
box_cells axes (Some b) grid box = boxes_have_cells axes b.first b.last grid box

-- the successors of a pair are the cells of its box
pub successors_are : (axes : List Axis) (inputs : ℕ) (marks : List Mark) (boxes : List (Option CellBox)) (pair : ℕ) → successors_at (box_game axes inputs marks boxes) pair ≡ cells_in axes (get_or boxes pair None)
successors_are axes inputs marks boxes pair =
    elim (cases_lt pair (length boxes)) [
      | inl lt ↦ get_or-map (cells_in axes) boxes pair None [] lt
      | inr past ↦
          get_or_past (map (cells_in axes) boxes) pair [] (omega (arith, past, length-map boxes (cells_in axes))) ∙ sym (ap (cells_in axes) (get_or_past boxes pair None past))
    ]

-- the lists of all boxes' cells have as many cells as the boxes
pub total : (axes : List Axis) (boxes : List (Option CellBox)) → sum_by length (map (cells_in axes) boxes) ≡ edges_of axes boxes
total axes boxes = fold-map (λ (n : ℕ) (xs : List ℕ). n + length xs) (cells_in axes) 0 boxes

module _ (p : Description) (limits : IsWithinLimits p) where
  axes : AreAxes (axes_of p)
  axes = (sound p limits.plant).axes

  -- marks and boxes, one for each pair, are a game if the corners of the boxes are in order
  module _ (marks : List Mark) (marks_of : AreMarksOf p marks) (boxes : List (Option CellBox)) (long : length boxes ≡ pairs_of_plant p) (in_order : All (IsBox (axes_of p)) boxes) where
    is_game : IsGame (box_game (axes_of p) (vectors_of p.inputs) marks boxes)
    is_game =
        let each : All (λ b. AreRisingCells (axes_of p) (cells_in (axes_of p) b)) boxes = All-weaker (IsBox (axes_of p)) (λ b. AreRisingCells (axes_of p) (cells_in (axes_of p) b)) (λ b box. box_cells (axes_of p) b axes box) boxes in_order in
        record {
          one_mark_each = marks_of.one_each;
          one_list_each = length-map boxes (cells_in (axes_of p)) ∙ long;
          rising = All-map IsStrictlyIncreasing (cells_in (axes_of p)) boxes (λ k d lt. (each k d lt).rising);
          within = All-map (All (λ c. c < cells_of (axes_of p))) (cells_in (axes_of p)) boxes (λ k d lt. (each k d lt).within);
        }

    pub is_graph : 1 ≤ vectors_of p.inputs → edges_of (axes_of p) boxes ≤ EDGES_LIMIT → IsBoxGraph (axes_of p) (vectors_of p.inputs) marks boxes
    is_graph some_input few = record {
      grid = axes;
      graph = record {
        game = is_game;
        some_cell = some_cells (axes_of p) axes.each;
        cells_bound = limits.cells;
        some_input = some_input;
        inputs_bound = limits.vectors;
        pairs_bound = limits.pairs;
        edges_bound = omega (arith, total (axes_of p) boxes, few);
      };
      ordered = in_order;
    }

  module _ (boxes : List (Option CellBox)) (boxes_of : AreBoxesOf p boxes) where
    -- each box is that of a pair
    box_of : (pair : ℕ) → pair < length boxes → IsBoxOf p (pair / vectors_of p.inputs) (pair % vectors_of p.inputs) (box_at boxes pair)
    box_of pair below =
        let vectors = vectors_of p.inputs in
        let parts = pair_split pair (cells_of (axes_of p)) vectors (omega (arith, below, boxes_of.one_each)) in
        subst (λ (k : ℕ). IsBoxOf p (pair / vectors) (pair % vectors) (box_at boxes k)) parts.2 (boxes_of.each (pair / vectors) (pair % vectors) parts.0 parts.1)

    -- the corners of each box are in order
    pub ordered : All (IsBox (axes_of p)) boxes
    ordered = λ k d lt.
        subst (IsBox (axes_of p)) (get_or_default boxes k None d lt) (IfSome_then (box_at boxes k) (box_of k lt).corners (λ b meets. meets.ordered))

    lists_are : (c u : ℕ) → c < cells_of (axes_of p) → u < vectors_of p.inputs → AreSuccessors p c u (get_or (map (cells_in (axes_of p)) boxes) (pair_of_plant p c u) [])
    lists_are c u cell input =
        subst (AreSuccessors p c u) (sym (successors_are (axes_of p) (vectors_of p.inputs) [] boxes (pair_of_plant p c u))) (box_successors p c u (box_at boxes (pair_of_plant p c u)) (boxes_of.each c u cell input))

    -- the cells of all boxes are the plant's edges
    pub are_edges : (n : ℕ) → n ≡ edges_of (axes_of p) boxes → AreEdges p n
    are_edges n is = record {
      lists = map (cells_in (axes_of p)) boxes;
      one_each = length-map boxes (cells_in (axes_of p)) ∙ boxes_of.one_each;
      each = lists_are;
      total = is ∙ sym (total (axes_of p) boxes);
    }

    -- and the plant's game
    pub is_game_of : (marks : List Mark) → AreMarksOf p marks → IsGameOf p (box_game (axes_of p) (vectors_of p.inputs) marks boxes)
    is_game_of marks marks_of = record {
      game = is_game marks marks_of boxes boxes_of.one_each ordered;
      cells = refl;
      inputs = refl;
      marks = marks_of.each;
      successors = lists_are;
    }

    -- which is a graph, if these aren't too many
    pub is_graph_of : (marks : List Mark) → AreMarksOf p marks → 1 ≤ vectors_of p.inputs → edges_of (axes_of p) boxes ≤ EDGES_LIMIT → IsBoxGraph (axes_of p) (vectors_of p.inputs) marks boxes
    is_graph_of marks marks_of = is_graph marks marks_of boxes boxes_of.one_each ordered
