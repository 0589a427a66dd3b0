-- Next states to which a plant's equations may lead: of a sample only the state, the values that were applied and the next state
-- are looked at, whatever moved the plant. A device can test this.
use Rattle.std.specs.Prelude.{◌≡◌, ℕ, ◌<◌, ℤ, negsuc, pos, List, length, Some}
use Rattle.std.specs.List.{Contains}
use Rattle.grid_quantiser.specs.declared.boxes.CellBox.{CellBox}
use Rattle.grid_quantiser.specs.Cells.{IsInDomain, cell_of}
use Rattle.grid_quantiser.specs.CellBoxes.{cells_between}
use Rattle.plant_record.specs.Description.{Description, axes_of, vector_of, vectors_of}
use Rattle.successor_box.specs.Deviations.{HasNoOverflow}
use Rattle.successor_box.specs.SuccessorBoxes.{IsBoxOf}
use Rattle.text_control.specs.declared.follow.Follow.{Follow}
use Rattle.text_control.specs.declared.follow.Follow.TheVariants.{Inside, Outside, NoInput, WrongSizes, Overflow}

-- One sample: the state, the values that are applied there, and the state at the next sample, whatever led to it.
pub record FollowedSample : Type 0 where
  pub state : List ℤ
  pub values : List ℤ
  pub next : List ℤ

-- The next state lies in the domain, in a cell of the box of the state's cell under an input vector with the values.
pub record IsInItsBox (p : Description) (s : FollowedSample) : Type 0 where
  pub input : ℕ
  pub below : input < vectors_of p.inputs
  pub are : s.values ≡ vector_of p.inputs input
  pub box : CellBox
  pub is_box : IsBoxOf p (cell_of (axes_of p) s.state) input (Some box)
  pub inside : IsInDomain (axes_of p) s.next
  pub among : Contains (cells_between (axes_of p) box.first box.last) (cell_of (axes_of p) s.next)

-- One number for each state, one for each input variable, and again one for each state.
pub record IsSized (p : Description) (s : FollowedSample) : Type 0 where
  pub states : length s.state ≡ length p.states
  pub inputs : length s.values ≡ length p.inputs
  pub next_states : length s.next ≡ length p.states

-- these are the values of an input vector
abbrev pub AreVector : Description → List ℤ → Type 0
AreVector p values = (u : ℕ) × (u < vectors_of p.inputs) × (values ≡ vector_of p.inputs u)

-- the state lies in the domain, and the values are those of an input vector
abbrev pub IsStep : Description → FollowedSample → Type 0
IsStep p s = IsInDomain (axes_of p) s.state × AreVector p s.values

-- whether the next state lies in its box, or why it isn't told
abbrev pub IsFollow : Description → FollowedSample → Follow → Type 0
IsFollow p s Inside = IsSized p s × IsStep p s × HasNoOverflow p × IsInItsBox p s
IsFollow p s Outside = IsSized p s × IsStep p s × HasNoOverflow p × (IsInItsBox p s → ⊥)
IsFollow p s NoInput = IsSized p s × (IsStep p s → ⊥)
IsFollow p s WrongSizes = IsSized p s → ⊥
IsFollow p s Overflow = IsSized p s × IsStep p s × (HasNoOverflow p → ⊥)

-- the number of what is told
abbrev pub follow_number : Follow → ℤ
follow_number Inside = pos 1
follow_number Outside = pos 0
follow_number NoInput = negsuc 0
follow_number WrongSizes = negsuc 1
follow_number Overflow = negsuc 3

-- a number that says whether the next state lies in its box
abbrev pub EncodesFollow : Description → FollowedSample → ℤ → Type 0
EncodesFollow p s number = (f : Follow) × (number ≡ follow_number f) × IsFollow p s f
