-- What the trajectories by a stay text and by a patrol text do. That there is one text or one refusal is said of each kind in
-- controller_table.
use Rattle.std.specs.Prelude.{ℕ, ◌≤◌, ℤ, List, length, take}
use Rattle.std.specs.List.{Any}
use Rattle.game_core.specs.declared.game.Row.{Row}
use Rattle.plant_record.specs.Description.{Description}
use Rattle.plant_record.specs.States.{LiesInSome, IsClear}
use Rattle.temporal_texts.specs.StayText.{HasStayRow}
use Rattle.temporal_texts.specs.Settles.{Settles}
use Rattle.temporal_texts.specs.PatrolText.{HasPatrolRow}
use Rattle.temporal_texts.specs.Patrols.{Patrols}
use Rattle.temporal_texts.specs.TextTrajectories.{Sample, IsStayTrajectory, IsPatrolTrajectory, EndsTurn}

-- Where a text settles its plant, every trajectory by its rows from a state with a row stays off the obstacles, always
-- comes to a state with a row, and from the sample of the first row's rank on lies in a target.
abbrev pub StayTrajectoriesSettle : Type 0
StayTrajectoriesSettle =
    (p : Description) (bytes : List ℕ) → Settles p bytes → (x y : List ℤ) (row : Row) (samples : List Sample) → HasStayRow bytes x row → IsStayTrajectory p bytes x samples y
    → IsClear p y × ((after : Row) × HasStayRow bytes y after) × (row.rank ≤ length samples → LiesInSome p p.targets y)

-- Where a text patrols its plant's targets, every trajectory by its rows from a state with a row for the turn stays off the
-- obstacles and always comes to a state with a row for its turn; and the first turn ends within its row's rank.
abbrev pub PatrolTrajectoriesGoOn : Type 0
PatrolTrajectoriesGoOn =
    (p : Description) (bytes : List ℕ) → Patrols p bytes → (j i : ℕ) (x y : List ℤ) (row : Row) (samples : List Sample) → HasPatrolRow bytes j x row → IsPatrolTrajectory p bytes j x samples i y
    → IsClear p y × ((after : Row) × HasPatrolRow bytes i y after) × (row.rank ≤ length samples → Any (EndsTurn p bytes j) (take row.rank samples))
