-- What a checker says of the rows of a table, by its plant's goal.
use Rattle.std.specs.Prelude.{◌≡◌, ℕ, List, Option}
use Rattle.game_core.specs.declared.game.Row.{Row}
use Rattle.game_core.specs.Game.{Game}
use Rattle.plant_record.specs.Description.{Description}
use Rattle.plant_game.specs.Abstraction.{IsGameOf}
use Rattle.table_check.specs.declared.verdict.Verdict.{Verdict}
use Rattle.table_check.specs.declared.verdict.Verdict.TheVariants.{Invalid}
use Rattle.table_check.specs.Verdicts.{IsVerdictFor}
use Rattle.command_line.specs.declared.outcome.Refusal.TheVariants as refusals
use Rattle.text_abstraction.specs.declared.stop.Stop.{Stop}
use Rattle.text_abstraction.specs.declared.stop.Stop.TheVariants.{Refused}

-- The verdict on rows for a plant, in its game.
pub record IsJudged (p : Description) (rows : List (Option Row)) (verdict : Verdict) : Type 0 where
  pub game : Game
  pub abstraction : IsGameOf p game
  pub judged : IsVerdictFor p.goal game rows verdict

-- rows are refused for the cell that the verdict tells
abbrev pub IsStopBy : Verdict → Stop → Type 0
IsStopBy verdict stop = (cell : ℕ) × (verdict ≡ Invalid cell) × (stop ≡ Refused (refusals.Invalid cell))
