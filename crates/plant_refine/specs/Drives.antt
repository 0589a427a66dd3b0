-- What the engineer paid for: the table, read back from its bytes, brings the plant into the target.
-- No solver and no game occurs here.
use Rattle.std.specs.Prelude.{◌≡◌, ℕ, ◌⊎◌, ℤ, List, [], ◌∷◌, length}
use Rattle.std.specs.List.{All}
use Rattle.plant_record.specs.Description.{Description}
use Rattle.plant_record.specs.States.{LiesInSome, IsClear}
use Rattle.plant_record.specs.Steps.{step_of, IsNoise}
use Rattle.controller_table.specs.Choice.{IsChoice, HasRank}

-- from a state the table brings the plant into a target box, whatever these noises are, past no obstacle
abbrev pub Comes : Description → List ℕ → List ℤ → List (List ℤ) → Type 0
Comes p bytes x [] = IsClear p x × LiesInSome p p.targets x
Comes p bytes x (w ∷ ws) = IsClear p x × (LiesInSome p p.targets x ⊎ ((u : ℕ) × IsChoice bytes x u × Comes p bytes (step_of p x u w) ws))

-- from every state whose cell has a row of rank k, under every k noises in range
abbrev pub Drives : Description → List ℕ → Type 0
Drives p bytes = (x : List ℤ) (k : ℕ) (ws : List (List ℤ)) → HasRank bytes x k → length ws ≡ k → All (IsNoise p.noises) ws → Comes p bytes x ws
