-- The stay text, read back from its bytes, brings the plant into its targets and keeps it there.
-- No solver and no game occurs here.
use Rattle.std.specs.Prelude.{◌≡◌, ℕ, ◌-◌, ℤ, List, [], ◌∷◌}
use Rattle.std.specs.List.{All}
use Rattle.game_core.specs.declared.game.Row.{Row}
use Rattle.plant_record.specs.Description.{Description}
use Rattle.plant_record.specs.States.{LiesInSome, IsClear}
use Rattle.plant_record.specs.Steps.{step_of, IsNoise}
use Rattle.temporal_texts.specs.StayText.{HasStayRow}

-- a state off the obstacles, in a cell with a row, and in a target where no sample is left to get there
abbrev pub IsUnderWay : Description → List ℕ → List ℤ → ℕ → Type 0
IsUnderWay p bytes x k = IsClear p x × ((row : Row) × HasStayRow bytes x row) × (k ≡ 0 → LiesInSome p p.targets x)

-- from a state the text brings the plant into its targets within k samples and keeps it there, whatever these noises
-- are, past no obstacle
abbrev pub Holds : Description → List ℕ → List ℤ → ℕ → List (List ℤ) → Type 0
Holds p bytes x k [] = IsUnderWay p bytes x k
Holds p bytes x k (w ∷ ws) = IsUnderWay p bytes x k × ((row : Row) × HasStayRow bytes x row × Holds p bytes (step_of p x row.input w) (k - 1) ws)

-- from every state whose cell has a row, within as many samples as its rank, under all noises in range, however many
abbrev pub Settles : Description → List ℕ → Type 0
Settles p bytes = (x : List ℤ) (row : Row) (ws : List (List ℤ)) → HasStayRow bytes x row → All (IsNoise p.noises) ws → Holds p bytes x row.rank ws
