-- A plant has one game: its marks and its lists of successors are determined.
use Rattle.std.proofs.Common.{◌≡◌, ℕ, ◌<◌, arith, refl, sym, ◌∙◌}
use Rattle.std.proofs.lemmas.List.{ext_get_or}
use Rattle.game_core.specs.declared.game.Mark.{Mark}
use Rattle.game_core.specs.declared.game.Mark.TheVariants.{Goal, Obstacle, Plain}
use Rattle.game_core.specs.Game.{Game, mark_of}
use Rattle.plant_record.specs.Description.{Description}
use Rattle.plant_record.proofs.lemmas.SoundPlants.{sound}
use Rattle.plant_game.specs.Abstraction.{IsMarkAt, IsGameOf}
use Rattle.plant_game.specs.Laws.{OneGamePerPlant}
use Rattle.plant_game.proofs.EdgeCounts.{one_lists, one_list_each, game_lists}

same_mark : (p : Description) (c : ℕ) (m n : Mark) → IsMarkAt p c m → IsMarkAt p c n → m ≡ n
same_mark p c Goal n is also = sym (also.0.1 (is.0.0 refl))
same_mark p c Obstacle n is also = sym (also.1.1 (is.1.0 refl))
same_mark p c Plain Goal is also = is.0.1 (also.0.0 refl)
same_mark p c Plain Obstacle is also = is.1.1 (also.1.0 refl)
same_mark p c Plain Plain is also = refl

module _ (p : Description) (g h : Game) (f : IsGameOf p g) (k : IsGameOf p h) where
  same_cells : g.cells ≡ h.cells
  same_cells = f.cells ∙ sym k.cells

  marks_at : (c : ℕ) → c < g.cells → mark_of g c ≡ mark_of h c
  marks_at c cell = same_mark p c (mark_of g c) (mark_of h c) (f.marks c cell) (k.marks c (omega (arith, cell, same_cells)))

  same_marks : g.marks ≡ h.marks
  same_marks = ext_get_or Plain g.marks h.marks (f.game.one_mark_each ∙ same_cells ∙ sym k.game.one_mark_each) (λ c lt. marks_at c (omega (arith, lt, f.game.one_mark_each)))

pub one_game : OneGamePerPlant
one_game p g h plant f k =
    let lists : g.successors ≡ h.successors = one_lists p (sound p plant) g.successors h.successors (one_list_each p g f) (one_list_each p h k) (game_lists p g f) (game_lists p h k) in
    λ i. record { cells = same_cells p g h f k i; inputs = (f.inputs ∙ sym k.inputs) i; marks = same_marks p g h f k i; successors = lists i }
