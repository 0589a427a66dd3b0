-- What a plant does where at each sample the input of the text's row at the state is applied: of every length.
use Rattle.std.specs.Prelude.{◌≡◌, ◌⊎◌, ℕ, ℤ, List, [], ◌∷◌, length}
use Rattle.game_core.specs.declared.game.Row.{Row}
use Rattle.grid_quantiser.specs.CellBoxes.{IsInBox}
use Rattle.plant_record.specs.Description.{Description, axes_of}
use Rattle.plant_record.specs.Steps.{step_of, IsNoise}
use Rattle.turn_rows.specs.Targets.{target_at, next_turn}
use Rattle.temporal_texts.specs.StayText.{HasStayRow}
use Rattle.temporal_texts.specs.PatrolText.{HasPatrolRow, IsArrivalIn}

-- One sample: the row whose input is applied at a state, and the noise.
pub record Sample : Type 0 where
  pub state : List ℤ
  pub row : Row
  pub noise : List ℤ

-- the state at the next sample
abbrev pub state_after : Description → Sample → List ℤ
state_after p s = step_of p s.state s.row.input s.noise

-- samples lead from one state to another, each by the stay text's row at its state
abbrev pub IsStayTrajectory : Description → List ℕ → List ℤ → List Sample → List ℤ → Type 0
IsStayTrajectory p bytes x [] y = y ≡ x
IsStayTrajectory p bytes x (s ∷ samples) y =
    (s.state ≡ x) × HasStayRow bytes x s.row × IsNoise p.noises s.noise × IsStayTrajectory p bytes (state_after p s) samples y

-- the turn at a state, where it was j at the sample before: the next one at an arrival, and else the same
abbrev pub IsTurnFrom : Description → List ℕ → ℕ → List ℤ → ℕ → Type 0
IsTurnFrom p bytes j y i =
    ((row : Row) × IsArrivalIn bytes p j y row × (i ≡ next_turn (length p.targets) j))
    ⊎ (((row : Row) → IsArrivalIn bytes p j y row → ⊥) × (i ≡ j))

-- samples lead from a turn and a state to others, each by the patrol text's row for the turn at its state
abbrev pub IsPatrolTrajectory : Description → List ℕ → ℕ → List ℤ → List Sample → ℕ → List ℤ → Type 0
IsPatrolTrajectory p bytes j x [] i y = (i ≡ j) × (y ≡ x)
IsPatrolTrajectory p bytes j x (s ∷ samples) i y =
    (s.state ≡ x) × HasPatrolRow bytes j x s.row × IsNoise p.noises s.noise
    × ((m : ℕ) × IsTurnFrom p bytes j (state_after p s) m × IsPatrolTrajectory p bytes m (state_after p s) samples i y)

-- a sample after which the turn j ends: at an arrival, within its target
abbrev pub EndsTurn : Description → List ℕ → ℕ → Sample → Type 0
EndsTurn p bytes j s =
    ((row : Row) × IsArrivalIn bytes p j (state_after p s) row)
    × IsInBox (axes_of p) (target_at p j).low (target_at p j).high (state_after p s)
