-- How a search begins.
use Rattle.std.proofs.Common.{◌≡◌, ℕ, ◌<◌, Bool, true, false, List, length, ap, ◌∙◌}
use Rattle.std.proofs.lemmas.List.{get_or-replicate, length-replicate}
use Rattle.game_core.specs.Game.{Game, IsGame}
use Rattle.plant_record.specs.Description.{Description}
use Rattle.turn_rows.specs.Targets.{IsInTarget, next_turn}
use Rattle.temporal_games.specs.inside.PatrolSearch.{PatrolProgress, is_due, IsUnderWay, IsAtStart}
use Rattle.temporal_games.proofs.KeptCells.{visitors_have_rows}
use Rattle.turn_rows.proofs.NextTurns.{next_below}

pub starts : (p : Description) (g : Game) (t : PatrolProgress) → IsGame g → IsAtStart p g t → IsUnderWay g (IsInTarget p) (length p.targets) t
starts p g t a s = record {
  mark_lists = s.mark_lists;
  row_lists = s.row_lists;
  tests = ap (λ (due : List Bool). length due) s.all_due ∙ length-replicate (length p.targets) true;
  marked = λ j lj. (s.marked j lj).turn_marks;
  visits = g.cells;
  holds = λ j c lj lc inside v. (s.marked j lj).all c lc inside (visitors_have_rows g a (IsInTarget p) (length p.targets) s.kept s.keeps (next_turn (length p.targets) j) c lc v);
  solved = λ j lj e. absurd (not_due j lj e);
  led = λ j c lj lc e m. absurd (not_due (next_turn (length p.targets) j) (next_below (length p.targets) j lj) e);
}
  where
    not_due : (j : ℕ) → j < length p.targets → is_due t.due j ≡ false → ⊥
    not_due j lj e = let is : is_due t.due j ≡ true = ap (λ (due : List Bool). is_due due j) s.all_due ∙ get_or-replicate (length p.targets) j true false lj in cc
