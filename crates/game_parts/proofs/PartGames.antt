-- Games by the boxes of some cells of a plant.
use Rattle.std.proofs.Common.{inl, inr, ◌≡◌, ℕ, ◌+◌, ◌-◌, ◌*◌, ◌/◌, ◌%◌, ◌<◌, ◌≤◌, List, ◌++◌, All, Option, None, length, get_or, refl, sym, ap, subst, ◌∙◌, arith}
use Rattle.std.specs.Prelude.{IfSome}
use Rattle.std.proofs.Math.Nat.{add-mul}
use Rattle.std.proofs.lemmas.Bool.{cases_lt}
use Rattle.std.proofs.lemmas.Nat.{mul-add-lt, mul-le}
use Rattle.std.proofs.lemmas.Option.{IfSome_then}
use Rattle.std.proofs.lemmas.List.{length-append, get_or_default, get_or_append_left, get_or-append_right}
use Rattle.base.specs.declared.limits.TheConstants.{EDGES_LIMIT}
use Rattle.grid_quantiser.specs.declared.axis.Axis.{Axis}
use Rattle.grid_quantiser.specs.declared.boxes.CellBox.{CellBox}
use Rattle.grid_quantiser.specs.Axes.{cells_of}
use Rattle.game_core.specs.declared.game.Mark.{Mark}
use Rattle.game_core.specs.declared.game.Mark.TheVariants.{Plain}
use Rattle.game_core.specs.Game.{Game, successors_at, successors_of}
use Rattle.plant_record.specs.Description.{Description, axes_of, vectors_of}
use Rattle.plant_record.specs.Limits.{IsWithinLimits}
use Rattle.successor_box.specs.SuccessorBoxes.{IsBoxOf, cells_in}
use Rattle.pair_box.specs.PlantBoxes.{pairs_of_plant, pair_of_plant, box_at, AreBoxesOf}
use Rattle.plant_game.specs.Marks.{AreMarksOf}
use Rattle.plant_game.proofs.GameLaws.{pair_split}
use Rattle.pair_boxes.specs.CellsFrom.{AreBoxesFrom}
use Rattle.plant_game.specs.BoxGame.{box_game, IsBox, IsBoxGraph, edges_of}
use Rattle.source_lists.specs.declared.shapes.Shapes.{Shapes}
use Rattle.game_core.specs.Judging.{IsSameAt}
use Rattle.game_parts.specs.inside.GameParts.{HasBoxesFrom}
use Rattle.game_parts.specs.inside.Padded.{padded}
use Rattle.source_lists.specs.Shapes.{HasSegmentsOf, EachBoxHasSegments}
use Rattle.plant_game.proofs.BoxGames.{successors_are, is_graph}
use Rattle.game_parts.proofs.PaddedBoxes as pad

-- ---- boxes of cells one after another

module _ (p : Description) (c n : ℕ) (boxes : List (Option CellBox)) (long : length boxes ≡ n * vectors_of p.inputs) (from : AreBoxesFrom p c boxes) where
  -- each box is that of a pair
  box_from : (k : ℕ) → k < length boxes → IsBoxOf p (c + k / vectors_of p.inputs) (k % vectors_of p.inputs) (get_or boxes k None)
  box_from k below =
      let v = vectors_of p.inputs in
      let parts = pair_split k n v (omega (arith, below, long)) in
      subst (λ (i : ℕ). IsBoxOf p (c + k / v) (k % v) (get_or boxes i None)) parts.2 (from (k / v) (k % v) parts.1 (omega (arith, parts.2, below)))

  -- the corners of each box are in order
  pub ordered_from : All (IsBox (axes_of p)) boxes
  ordered_from = λ k d lt. subst (IsBox (axes_of p)) (get_or_default boxes k None d lt) (IfSome_then (get_or boxes k None) (box_from k lt).corners (λ b meets. meets.ordered))

-- boxes of all cells are the plant's
pub all_boxes : (p : Description) (boxes : List (Option CellBox)) → length boxes ≡ pairs_of_plant p → AreBoxesFrom p 0 boxes → AreBoxesOf p boxes
all_boxes p boxes long from = record {
  one_each = long;
  each = λ c u cell input.
      let v = vectors_of p.inputs in
      let none : 0 + c ≡ c = omega arith in
      subst (λ (i : ℕ). IsBoxOf p i u (box_at boxes (pair_of_plant p c u))) none (from c u input (omega (arith, mul-add-lt c v u (cells_of (axes_of p)) cell input, long)));
}

-- boxes of the cells after those of others go on from these
module _ (p : Description) (c n : ℕ) (boxes later : List (Option CellBox)) (long : length boxes ≡ n * vectors_of p.inputs) where
  abbrev v : ℕ
  v = vectors_of p.inputs

  past_first : (k u : ℕ) → u < v → (k < n → k * v + u < length boxes) × (n ≤ k → k * v + u ≡ n * v + ((k - n) * v + u))
  past_first k u input = (
    λ lt. omega (arith, mul-add-lt k v u n lt input, long),
    λ le. let e : n + (k - n) ≡ k = omega (arith, le) in omega (arith, add-mul n (k - n) v, ap (λ (i : ℕ). i * v) e),
  )

  pub boxes_more : AreBoxesFrom p c boxes → AreBoxesFrom p (c + n) later → AreBoxesFrom p c (boxes ++ later)
  boxes_more first second = λ k u input below.
      elim (cases_lt k n) [
        | inl before ↦
            let inside = (past_first k u input).0 before in
            subst (IsBoxOf p (c + k) u) (sym (get_or_append_left boxes later None (k * v + u) inside)) (first k u input inside)
        | inr past ↦
            let split : k * v + u ≡ n * v + ((k - n) * v + u) = (past_first k u input).1 past in
            let slot : k * v + u - n * v ≡ (k - n) * v + u = omega (arith, split) in
            let cell : c + n + (k - n) ≡ c + k = omega (arith, past) in
            let read : get_or (boxes ++ later) (k * v + u) None ≡ get_or later ((k - n) * v + u) None =
            get_or-append_right boxes later (n * v) (k * v + u) None long (omega (arith, split)) ∙ ap (λ (i : ℕ). get_or later i None) slot
            in
            subst (IsBoxOf p (c + k) u) (sym read) (subst (λ (i : ℕ). IsBoxOf p i u (get_or later ((k - n) * v + u) None)) cell (second (k - n) u input (omega (arith, below, split, long, length-append boxes later))))
      ]

  module _ (marks : List Mark) (g : Game) (has : HasBoxesFrom p marks c (boxes ++ later) g) where
    pub has_first : HasBoxesFrom p marks c boxes g
    has_first = record {
      cells = has.cells;
      inputs = has.inputs;
      marks_are = has.marks_are;
      successors = λ k lt. has.successors k (omega (arith, lt, length-append boxes later)) ∙ ap (cells_in (axes_of p)) (get_or_append_left boxes later None k lt);
    }

    pub has_later : HasBoxesFrom p marks (c + n) later g
    has_later = record {
      cells = has.cells;
      inputs = has.inputs;
      marks_are = has.marks_are;
      successors = λ k lt.
          let pair : pair_of_plant p (c + n) k ≡ pair_of_plant p c (n * v + k) = omega (arith, add-mul c n v) in
          let slot : n * v + k - n * v ≡ k = omega arith in
          ap (successors_at g) pair
          ∙ has.successors (n * v + k) (omega (arith, lt, long, length-append boxes later))
          ∙ ap (cells_in (axes_of p)) (get_or-append_right boxes later (n * v) (n * v + k) None long (omega arith) ∙ ap (λ (i : ℕ). get_or later i None) slot);
    }

-- ---- games with such boxes

-- two games with the boxes of cells are the same there
pub both_same : (p : Description) (marks : List Mark) (from n c : ℕ) (boxes : List (Option CellBox)) (g h : Game) → length boxes ≡ n * vectors_of p.inputs →
    HasBoxesFrom p marks from boxes g → HasBoxesFrom p marks from boxes h → from ≤ c → c < from + n → IsSameAt c g h
both_same p marks from n c boxes g h long in_g in_h low high = record {
  cells = in_h.cells ∙ sym in_g.cells;
  inputs = in_h.inputs ∙ sym in_g.inputs;
  mark = ap (λ (ms : List Mark). get_or ms c Plain) (in_h.marks_are ∙ sym in_g.marks_are);
  successors = λ u input. at h in_h u (subst (λ (i : ℕ). u < i) in_g.inputs input) ∙ sym (at g in_g u (subst (λ (i : ℕ). u < i) in_g.inputs input));
}
  where
    at : (k : Game) → HasBoxesFrom p marks from boxes k → (u : ℕ) → u < vectors_of p.inputs → successors_of k c u ≡ cells_in (axes_of p) (box_at boxes ((c - from) * vectors_of p.inputs + u))
    at k has u input =
        let v = vectors_of p.inputs in
        let j = c - from in
        let cell : from + j ≡ c = omega (arith, low) in
        let pair : c * v + u ≡ pair_of_plant p from (j * v + u) = omega (arith, add-mul from j v, ap (λ (i : ℕ). i * v) cell) in
        let short : j < n = omega (arith, low, high) in
        ap (λ (i : ℕ). successors_at k (c * i + u)) has.inputs ∙ ap (successors_at k) pair ∙ has.successors (j * v + u) (omega (arith, mul-add-lt j v u n short input, long))

-- the game by some boxes has them
pub padded_has : (p : Description) (marks : List Mark) (from : ℕ) (boxes : List (Option CellBox)) (pairs : ℕ) →
    HasBoxesFrom p marks from boxes (box_game (axes_of p) (vectors_of p.inputs) marks (padded (from * vectors_of p.inputs) boxes pairs))
padded_has p marks from boxes pairs = record {
  cells = refl;
  inputs = refl;
  marks_are = refl;
  successors = λ k lt.
      let first = from * vectors_of p.inputs in
      let slot : first + k - first ≡ k = omega arith in
      successors_are (axes_of p) (vectors_of p.inputs) marks (padded first boxes pairs) (first + k)
      ∙ ap (cells_in (axes_of p)) (pad.here first boxes pairs (first + k) (omega arith) (omega (arith, lt, slot)) ∙ ap (λ (i : ℕ). get_or boxes i None) slot);
}

-- and so has the game by all boxes
pub whole_has : (p : Description) (marks : List Mark) (boxes : List (Option CellBox)) → HasBoxesFrom p marks 0 boxes (box_game (axes_of p) (vectors_of p.inputs) marks boxes)
whole_has p marks boxes = record {
  cells = refl;
  inputs = refl;
  marks_are = refl;
  successors = λ k lt.
      let pair : 0 * vectors_of p.inputs + k ≡ k = omega arith in
      successors_are (axes_of p) (vectors_of p.inputs) marks boxes (0 * vectors_of p.inputs + k) ∙ ap (λ (i : ℕ). cells_in (axes_of p) (get_or boxes i None)) pair;
}

-- ---- which are graphs

module _ (p : Description) (from to : ℕ) (boxes : List (Option CellBox)) (low : from ≤ to) (high : to ≤ cells_of (axes_of p)) (long : length boxes ≡ (to - from) * vectors_of p.inputs) where
  part_fits : from * vectors_of p.inputs + length boxes ≤ pairs_of_plant p
  part_fits =
      let v = vectors_of p.inputs in
      let cells : from + (to - from) ≡ to = omega (arith, low) in
      omega (arith, long, add-mul from (to - from) v, ap (λ (i : ℕ). i * v) cells, mul-le to v (cells_of (axes_of p)) v high (omega arith))

  -- the game by the boxes of some cells, if they have few edges
  pub part_graph : IsWithinLimits p → (marks : List Mark) → AreMarksOf p marks → 1 ≤ vectors_of p.inputs → AreBoxesFrom p from boxes → edges_of (axes_of p) boxes ≤ EDGES_LIMIT →
      IsBoxGraph (axes_of p) (vectors_of p.inputs) marks (padded (from * vectors_of p.inputs) boxes (pairs_of_plant p))
  part_graph limits marks marks_of some_input each few =
      let first = from * vectors_of p.inputs in
      let ordered = ordered_from p from (to - from) boxes long each in
      is_graph p limits marks marks_of (padded first boxes (pairs_of_plant p)) (pad.long first boxes (pairs_of_plant p) part_fits) (pad.all first boxes (pairs_of_plant p) (IsBox (axes_of p)) tt ordered) some_input
      (omega (arith, pad.edges first boxes (pairs_of_plant p) (axes_of p), few))

-- the boxes of some cells among those of all have their segments, if these have
pub part_listed : (axes : List Axis) (first : ℕ) (boxes : List (Option CellBox)) (pairs : ℕ) (s : Shapes) → EachBoxHasSegments axes s boxes → EachBoxHasSegments axes s (padded first boxes pairs)
part_listed axes first boxes pairs s listed = pad.all first boxes pairs (λ b. IfSome b (HasSegmentsOf axes s)) tt listed
