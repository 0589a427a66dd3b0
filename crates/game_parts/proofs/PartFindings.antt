-- What is found at some cells, and then at the next.
use Rattle.std.proofs.Common.{inl, inr, ◌≡◌, ℕ, ◌+◌, ◌-◌, ◌*◌, ◌^◌, ◌<◌, ◌≤◌, Bool, true, false, not, List, [], ◌++◌, All, Option, Some, None, length, refl, sym, ap, subst, ◌∙◌, arith}
use Rattle.std.proofs.Math.Nat.{add-mul}
use Rattle.std.specs.Option.{is_some}
use Rattle.std.proofs.lemmas.Bool.{false≢true, cases_lt}
use Rattle.std.proofs.lemmas.Nat.{mul-le}
use Rattle.std.proofs.lemmas.List.{length-append}
use Rattle.std.proofs.lemmas.List.Sums.{sum_by-append}
use Rattle.grid_quantiser.specs.declared.boxes.CellBox.{CellBox}
use Rattle.grid_quantiser.specs.Axes.{cells_of}
use Rattle.game_core.specs.declared.game.Mark.{Mark}
use Rattle.game_core.specs.Game.{Game}
use Rattle.plant_record.specs.Description.{Description, axes_of, vectors_of}
use Rattle.plant_record.specs.Limits.{IsWithinLimits}
use Rattle.plant_record.proofs.lemmas.SoundPlants.{sound}
use Rattle.successor_box.specs.SuccessorBoxes.{cells_in}
use Rattle.plant_game.specs.Abstraction.{AreEdges}
use Rattle.plant_game.specs.Marks.{AreMarksOf}
use Rattle.pair_boxes.specs.CellsFrom.{AreBoxesFrom}
use Rattle.game_core.specs.Judging.{IsFirstFailure}
use Rattle.game_parts.specs.GameParts.{IsFirstInGame}
use Rattle.plant_game.specs.BoxGame.{box_game, IsBox, edges_of}
use Rattle.game_parts.specs.inside.GameParts.{HasBoxesFrom, HaveFirst, IsFindingOf}
use Rattle.game_parts.proofs.PartGames.{ordered_from, all_boxes, boxes_more, has_first, has_later, whole_has}
use Rattle.plant_game.proofs.BoxGames.{is_game_of, is_graph, are_edges}
use Rattle.source_lists.proofs.SourceSteps.{edges_fit}

-- the first of some cells and then of the next
pub first_more : (P : ℕ → Type 0) (a b c : ℕ) → a ≤ b → b ≤ c → (first found : Option ℕ) → IsFirstFailure P a b first → ((w : ℕ) → first ≡ Some w → found ≡ Some w) → (first ≡ None → IsFirstFailure P b c found) →
    IsFirstFailure P a c found
first_more P a b c low high (Some w) found h kept later = subst (IsFirstFailure P a c) (sym (kept w refl)) (h.0, omega (arith, h.1, high), h.2, h.3)
first_more P a b c low high None found h kept later = next found (later refl)
  where
    next : (found : Option ℕ) → IsFirstFailure P b c found → IsFirstFailure P a c found
    next None g = λ x from to. elim (cases_lt x b) [ inl before ↦ h x from before | inr past ↦ g x past to ]
    next (Some w) g = (omega (arith, g.0, low), g.1, g.2, λ x from below. elim (cases_lt x b) [ inl before ↦ h x from before | inr past ↦ g.3 x past below ])

-- the first of two facts that hold of the same cells
pub first_same : (P Q : ℕ → Type 0) (from to : ℕ) (found : Option ℕ) → ((c : ℕ) → from ≤ c → c < to → P c → Q c) → ((c : ℕ) → from ≤ c → c < to → Q c → P c) → IsFirstFailure P from to found → IsFirstFailure Q from to found
first_same P Q from to None there back h = λ c low high. there c low high (h c low high)
first_same P Q from to (Some w) there back h = (h.0, h.1, λ q. h.2 (back w h.0 h.1 q), λ b low lt. there b low (omega (arith, lt, h.1)) (h.3 b low lt))

-- whether there is one, by a test
pub not_some : (first : Option ℕ) (none : Bool) (w : ℕ) → is_some first ≡ not none → none ≡ true → first ≡ Some w → ⊥
not_some first none w answer is some = false≢true (sym (sym (ap is_some some) ∙ answer ∙ ap not is))

pub not_none : (first : Option ℕ) (none : Bool) → is_some first ≡ not none → none ≡ false → first ≡ None → ⊥
not_none first none answer is gone = false≢true (sym (ap is_some gone) ∙ answer ∙ ap not is)

module _ (p : Description) (marks : List Mark) (Fact : Game → ℕ → Type 0) where
  -- before the first cell
  pub found_none : (a : ℕ) → IsFindingOf p marks Fact a a 0 None
  found_none a = record {
    boxes = [];
    long = let none : a - a ≡ 0 = omega arith in let zero : 0 * vectors_of p.inputs ≡ 0 = omega arith in sym (ap (λ (n : ℕ). n * vectors_of p.inputs) none ∙ zero);
    each = λ k u input below. absurd (omega (arith, below));
    edges_are = refl;
    first_is = λ few g has c low high. absurd (omega (arith, low, high));
  }

  module _ (a b c : ℕ) (low : a ≤ b) (high : b ≤ c) (edges : ℕ) (first : Option ℕ) (h : IsFindingOf p marks Fact a b edges first)
      (boxes : List (Option CellBox)) (long : length boxes ≡ (c - b) * vectors_of p.inputs) (each : AreBoxesFrom p b boxes) where
    abbrev both : List (Option CellBox)
    both = h.boxes ++ boxes

    middle : a + (b - a) ≡ b
    middle = omega (arith, low)

    both_long : length both ≡ (c - a) * vectors_of p.inputs
    both_long =
        let v = vectors_of p.inputs in
        let cells : (b - a) + (c - b) ≡ c - a = omega (arith, low, high) in
        omega (arith, length-append h.boxes boxes, h.long, long, add-mul (b - a) (c - b) v, ap (λ (n : ℕ). n * v) cells)

    both_each : AreBoxesFrom p a both
    both_each = boxes_more p a (b - a) h.boxes boxes h.long h.each (subst (λ (i : ℕ). AreBoxesFrom p i boxes) (sym middle) each)

    -- the edges of both
    pub both_edges : edges_of (axes_of p) both ≡ edges + edges_of (axes_of p) boxes
    both_edges = omega (arith, h.edges_are, sum_by-append (λ o. length (cells_in (axes_of p) o)) h.boxes boxes)

    -- they fit
    pub both_fit : IsWithinLimits p → c ≤ cells_of (axes_of p) → edges + edges_of (axes_of p) boxes < 2 ^ 64
    both_fit limits end =
        let v = vectors_of p.inputs in
        let ordered = ordered_from p a (c - a) both both_long both_each in
        let pairs : length both ≤ 2 ^ 22 = omega (arith, both_long, mul-le (c - a) v (cells_of (axes_of p)) v (omega (arith, end)) (omega arith), limits.pairs) in
        omega (arith, both_edges, edges_fit (axes_of p) both (sound p limits.plant).axes ordered limits.cells pairs)

    pub finding_more : (now : ℕ) → now ≡ edges + edges_of (axes_of p) boxes → (found : Option ℕ) → ((w : ℕ) → first ≡ Some w → found ≡ Some w) → (first ≡ None → now ≤ 2 ^ 25 → HaveFirst p marks Fact b c boxes found) →
        IsFindingOf p marks Fact a c now found
    finding_more now total found kept later = record {
      boxes = both;
      long = both_long;
      each = both_each;
      edges_are = total ∙ sym both_edges;
      first_is = λ few g has.
          first_more (Fact g) a b c low high first found (h.first_is (omega (arith, few, total)) g (has_first p a (b - a) h.boxes boxes h.long marks g has)) kept
          (λ none. later none few g (subst (λ (i : ℕ). HasBoxesFrom p marks i boxes g) middle (has_later p a (b - a) h.boxes boxes h.long marks g has)));
    }

  -- what is found at all cells
  module _ (limits : IsWithinLimits p) (edges : ℕ) (first : Option ℕ) (h : IsFindingOf p marks Fact 0 (cells_of (axes_of p)) edges first) where
    whole : length h.boxes ≡ cells_of (axes_of p) * vectors_of p.inputs
    whole = let all : cells_of (axes_of p) - 0 ≡ cells_of (axes_of p) = omega arith in h.long ∙ ap (λ (n : ℕ). n * vectors_of p.inputs) all

    in_order : All (IsBox (axes_of p)) h.boxes
    in_order = ordered_from p 0 (cells_of (axes_of p)) h.boxes whole h.each

    pub found_edges : AreEdges p edges
    found_edges = are_edges p limits h.boxes (all_boxes p h.boxes whole h.each) edges h.edges_are

    pub found_fit : edges < 2 ^ 64
    found_fit = omega (arith, h.edges_are, edges_fit (axes_of p) h.boxes (sound p limits.plant).axes in_order limits.cells (omega (arith, whole, limits.pairs)))

    pub found_first : AreMarksOf p marks → 1 ≤ vectors_of p.inputs → edges ≤ 2 ^ 25 → IsFirstInGame p Fact first
    found_first marks_of some_input few = record {
      game = box_game (axes_of p) (vectors_of p.inputs) marks h.boxes;
      abstraction = is_game_of p limits h.boxes (all_boxes p h.boxes whole h.each) marks marks_of;
      graph = (is_graph p limits marks marks_of h.boxes whole in_order some_input (omega (arith, few, h.edges_are))).graph;
      first = h.first_is few (box_game (axes_of p) (vectors_of p.inputs) marks h.boxes) (whole_has p marks h.boxes);
    }
