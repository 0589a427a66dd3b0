-- The patrol text, read back from its bytes, brings the plant into its targets in turn for ever.
-- No solver and no game occurs here.
use Rattle.grid_quantiser.specs.CellBoxes.{IsInBox}
use Rattle.plant_record.specs.Description.{Description, axes_of}
use Rattle.plant_record.specs.States.{IsClear}
use Rattle.plant_record.specs.Steps.{step_of, IsNoise}
use Rattle.std.specs.Prelude.{◌⊎◌, ℕ, ◌-◌, ◌≤◌, ℤ, List, [], ◌∷◌, length}
use Rattle.std.specs.List.{All}
use Rattle.game_core.specs.declared.game.Row.{Row}
use Rattle.turn_rows.specs.Targets.{target_at, next_turn}
use Rattle.temporal_texts.specs.PatrolText.{HasPatrolRow, IsArrivalIn}

-- where a step lands: at an arrival, within its target, from which it goes on to the next; or not yet, with samples left
abbrev pub LandsWell : Description → List ℕ → ℕ → List ℤ → ℕ → (ℕ → ℕ → Type 0) → Type 0
LandsWell p bytes j y k GoesOn =
    ((row : Row) × IsArrivalIn bytes p j y row × IsInBox (axes_of p) (target_at p j).low (target_at p j).high y × GoesOn (next_turn (length p.targets) j) row.rank)
    ⊎ (((row : Row) → IsArrivalIn bytes p j y row → ⊥) × (2 ≤ k) × GoesOn j (k - 1))

-- from a state the text brings the plant into target j within k samples, at least one, on from there to the next target
-- within as many samples as the rank there, and so on, whatever these noises are, past no obstacle
abbrev pub Goes : Description → List ℕ → ℕ → List ℤ → ℕ → List (List ℤ) → Type 0
Goes p bytes j x k [] = IsClear p x × ((row : Row) × HasPatrolRow bytes j x row × (row.rank ≤ k))
Goes p bytes j x k (w ∷ ws) =
    IsClear p x × ((row : Row) × HasPatrolRow bytes j x row × (row.rank ≤ k) × LandsWell p bytes j (step_of p x row.input w) k (λ i n. Goes p bytes i (step_of p x row.input w) n ws))

-- from every state whose cell has a row for a turn, under all noises in range, however many
abbrev pub Patrols : Description → List ℕ → Type 0
Patrols p bytes = (j : ℕ) (x : List ℤ) (row : Row) (ws : List (List ℤ)) → HasPatrolRow bytes j x row → All (IsNoise p.noises) ws → Goes p bytes j x row.rank ws
