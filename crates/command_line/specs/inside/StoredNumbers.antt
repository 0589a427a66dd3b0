-- The numbers of a state are kept in six positions.
use Rattle.std.specs.Prelude.{◌≡◌, ℕ, ◌≤◌, ℤ, List, length, take, refl}
use Rattle.grid_quantiser.specs.Cells.{point_of}
use Rattle.command_line.specs.declared.state_numbers.StateNumbers.TheInside.{Inside}
use Rattle.base.specs.declared.limits.TheConstants.{STATES_LIMIT}

-- Six positions keep up to six numbers, beside how many they are.
pub record IsStored (six : List ℤ) (count : ℕ) : Type 0 where
  pub few : count ≤ STATES_LIMIT
  pub rest : six ≡ point_of (take count six)
  pub count_is : count ≡ length (take count six)

-- the numbers give back what is kept
pub view_of_inverse : (s : Inside) → IsStored s.six s.count → ◌≡◌ {A = Inside} (record { six = point_of (take s.count s.six); count = length (take s.count s.six) }) s
view_of_inverse s stored = rw (← stored.rest, ← stored.count_is) refl
