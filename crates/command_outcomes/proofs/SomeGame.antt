-- No plant within the limits lacks a game: its boxes are those of its cells' corners, and a cell has one of three marks.
use Rattle.std.proofs.Common.{inl, inr, ℕ, ◌/◌, ◌%◌, ◌<◌, List, get_or, Option, Some, None, refl, subst, arith}
use Rattle.std.proofs.lemmas.Nat.{div-add-mod', mod_below, same_from_place}
use Rattle.grid_quantiser.specs.declared.boxes.CellBox.{CellBox}
use Rattle.grid_quantiser.specs.Axes.{cells_of}
use Rattle.grid_quantiser.specs.Cells.{cell_of}
use Rattle.grid_quantiser.proofs.MeetingCells.{meeting_corners}
use Rattle.game_core.specs.declared.game.Mark.{Mark}
use Rattle.game_core.specs.declared.game.Mark.TheVariants.{Goal, Obstacle, Plain}
use Rattle.game_core.specs.Game.{Game}
use Rattle.plant_record.specs.Description.{Description, axes_of, vectors_of}
use Rattle.plant_record.specs.Limits.{IsWithinLimits}
use Rattle.plant_record.specs.CellMarks.{IsObstacleCell}
use Rattle.plant_record.specs.Soundness.{IsSound}
use Rattle.plant_record.proofs.lemmas.SoundPlants.{sound}
use Rattle.successor_box.specs.SuccessorBoxes.{IsBoxOf, low_corner, high_corner}
use Rattle.successor_box.proofs.BoxDomains.{by_box_in_domain}
use Rattle.successor_box.proofs.Enabled.{corners_ordered}
use Rattle.plant_game.specs.Abstraction.{IsMarkAt, IsGameOf}
use Rattle.pair_box.specs.PlantBoxes.{AreBoxesOf, pairs_of_plant, pair_of_plant}
use Rattle.plant_game.specs.Marks.{AreMarksOf, LiesInSomeTarget}
use Rattle.plant_game.proofs.BoxGames.{is_game_of}
use Rattle.base.proofs.Products.{part_fits}
use Rattle.text_pieces.proofs.Undeniable.{either}
use Rattle.command_outcomes.proofs.Undeniable.{chosen}

-- ---- boxes

-- the box of a cell under an input
box_of : (p : Description) → IsSound p → (c u : ℕ) → (b : Option CellBox) × IsBoxOf p c u b
box_of p s c u =
    by_box_in_domain (axes_of p) (low_corner p c u) (high_corner p c u)
    (λ inside. (
      Some (record { first = cell_of (axes_of p) (low_corner p c u); last = cell_of (axes_of p) (high_corner p c u) }),
      record {
        inside = ((λ some. inside), (λ enabled. refl));
        corners = meeting_corners (axes_of p) (low_corner p c u) (high_corner p c u) s.axes.each (corners_ordered p c u s).0 inside;
      },
    ))
    (λ outside. (None, record { inside = ((λ some. absurd (cc)), (λ enabled. absurd (outside enabled))); corners = tt }))

some_boxes : (p : Description) → IsSound p → ((boxes : List (Option CellBox)) × AreBoxesOf p boxes → ⊥) → ⊥
some_boxes p s deny =
    chosen None (λ pair b. IsBoxOf p (pair / vectors_of p.inputs) (pair % vectors_of p.inputs) b) (pairs_of_plant p)
    (λ pair lt none. none (box_of p s (pair / vectors_of p.inputs) (pair % vectors_of p.inputs)))
    (λ found. deny (found.0, record { one_each = found.1; each = λ c u cell input. at found.0 c u input (found.2 (pair_of_plant p c u) (omega (arith, input, part_fits c (cells_of (axes_of p)) (vectors_of p.inputs) cell))) }))
  where
    at : (boxes : List (Option CellBox)) (c u : ℕ) → u < vectors_of p.inputs
        → IsBoxOf p (pair_of_plant p c u / vectors_of p.inputs) (pair_of_plant p c u % vectors_of p.inputs) (get_or boxes (pair_of_plant p c u) None) → IsBoxOf p c u (get_or boxes (pair_of_plant p c u) None)
    at boxes c u input is =
        let n = vectors_of p.inputs in
        let pair = pair_of_plant p c u in
        let same = same_from_place (pair / n) (pair % n) c u n (mod_below pair n (omega (arith, input))) input (div-add-mod' pair n) in
        subst (λ (v : ℕ). IsBoxOf p c v (get_or boxes pair None)) same.1 (subst (λ (d : ℕ). IsBoxOf p d (pair % n) (get_or boxes pair None)) same.0 is)

-- ---- marks

some_mark : (p : Description) (c : ℕ) → ((mark : Mark) × IsMarkAt p c mark → ⊥) → ⊥
some_mark p c deny =
    either (IsObstacleCell p c) (λ blocked. elim blocked [
      | inl obstacle ↦ deny (Obstacle, (((λ e. absurd (cc)), (λ goal. absurd (goal.0 obstacle))), ((λ e. obstacle), (λ is. refl))))
      | inr clear ↦ either (LiesInSomeTarget p c) (λ aimed. elim aimed [
        | inl target ↦ deny (Goal, (((λ e. (clear, target)), (λ is. refl)), ((λ e. absurd (cc)), (λ is. absurd (clear is)))))
        | inr outside ↦ deny (Plain, (((λ e. absurd (cc)), (λ goal. absurd (outside goal.1))), ((λ e. absurd (cc)), (λ is. absurd (clear is)))))
      ])
    ])

some_marks : (p : Description) → ((marks : List Mark) × AreMarksOf p marks → ⊥) → ⊥
some_marks p deny = chosen Plain (IsMarkAt p) (cells_of (axes_of p)) (λ c lt. some_mark p c) (λ found. deny (found.0, record { one_each = found.1; each = found.2 }))

-- ---- the game

pub some_game : (p : Description) → IsWithinLimits p → ((g : Game) × IsGameOf p g → ⊥) → ⊥
some_game p limits deny =
    some_boxes p (sound p limits.plant) (λ boxes. some_marks p (λ marks. deny (_, is_game_of p limits boxes.0 boxes.1 marks.0 marks.1)))
