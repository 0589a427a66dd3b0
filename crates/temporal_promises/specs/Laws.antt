-- What the texts of solutions promise.
use Rattle.std.specs.Prelude.{List, length, Option}
use Rattle.game_core.specs.declared.game.Row.{Row}
use Rattle.game_core.specs.Game.{Game}
use Rattle.plant_record.specs.Description.{Description}
use Rattle.plant_record.specs.Limits.{IsWithinLimits}
use Rattle.plant_game.specs.Abstraction.{IsGameOf}
use Rattle.temporal_games.specs.Stay.{IsStaySolution}
use Rattle.controller_table.specs.TextKinds.{HasFewTurns}
use Rattle.turn_rows.specs.Targets.{IsInTarget}
use Rattle.temporal_games.specs.Patrol.{IsPatrol}
use Rattle.temporal_texts.specs.StayText.{stay_text, IsStayText}
use Rattle.temporal_texts.specs.Settles.{Settles}
use Rattle.temporal_texts.specs.PatrolText.{patrol_text, IsPatrolText}
use Rattle.temporal_texts.specs.Patrols.{Patrols}

-- the text of the solution of reach and stay of a plant's game is a stay text, and settles the plant
abbrev pub StaySolutionsSettle : Type 0
StaySolutionsSettle =
    (p : Description) (g : Game) (rows : List (Option Row)) → IsWithinLimits p → IsGameOf p g → IsStaySolution g rows → IsStayText (stay_text p rows) p rows × Settles p (stay_text p rows)

-- the text of the solution of patrol of a plant's game is a patrol text if the plant has few enough turns, and patrols the plant's targets
abbrev pub PatrolSolutionsPatrol : Type 0
PatrolSolutionsPatrol =
    (p : Description) (g : Game) (rows : List (List (Option Row))) → IsWithinLimits p → IsGameOf p g → IsPatrol g (IsInTarget p) (length p.targets) rows → (HasFewTurns p → IsPatrolText (patrol_text p rows) p rows) × Patrols p (patrol_text p rows)
