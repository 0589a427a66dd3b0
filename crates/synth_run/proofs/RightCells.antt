-- The first cell that isn't right, and the verdict by it.
use Rattle.std.proofs.Common.{◌≡◌, ℕ, List, Option, length, sym, subst, ◌∙◌}
use Rattle.game_core.specs.declared.game.Row.{Row}
use Rattle.game_core.specs.Right.{IsRight}
use Rattle.grid_quantiser.specs.Axes.{cells_of}
use Rattle.plant_record.specs.declared.aims.GoalKind.{GoalKind}
use Rattle.plant_record.specs.declared.aims.GoalKind.TheVariants.{Reach}
use Rattle.plant_record.specs.Description.{Description, axes_of}
use Rattle.game_parts.specs.GameParts.{IsFirstInGame}
use Rattle.table_check.specs.Verdicts.{IsVerdictFor, verdict_by}
use Rattle.table_check.proofs.FirstWrong.{first_wrong_verdict}
use Rattle.synth_run.specs.inside.Judging.{IsJudged}

-- the first cell whose row isn't right gives the verdict
pub judged_by_first : (p : Description) (rows : List (Option Row)) (first : Option ℕ) → p.goal ≡ Reach → length rows ≡ cells_of (axes_of p) → IsFirstInGame p (λ g. IsRight g rows) first → IsJudged p rows (verdict_by first)
judged_by_first p rows first goal one_each h = record {
  game = h.game;
  abstraction = h.abstraction;
  judged = subst (λ (kind : GoalKind). IsVerdictFor kind h.game rows (verdict_by first)) (sym goal)
      (first_wrong_verdict h.game rows first h.graph.game (one_each ∙ sym h.abstraction.cells) h.first);
}
