-- The digits of an equation: indices in the variables on which extents depend, as one number, the slot of an extent.
use Rattle.std.specs.Prelude.{◌≡◌, ℕ, ◌+◌, ◌-◌, ◌*◌, ◌/◌, ◌%◌, ◌<◌, ◌≤◌, ◌⊎◌, ◌==◌, List, [], ◌∷◌, ◌++◌, length, slice_index, slice_index_or, sum_by, if◌then◌else◌, nat_lt, IsTrue, IsFalse}
use Rattle.std.specs.List.{All}
use Rattle.grid_quantiser.specs.Axes.{counts_of}
use Rattle.plant_record.specs.Description.{Description, axes_of, vectors_of}
use Rattle.plant_record.specs.ValueIndices.{value_count}
use Rattle.pair_box.specs.PlantBoxes.{pairs_of_plant}
use Rattle.successor_box.specs.PairExtents.{depends_on, index_in}
use Rattle.successor_box.specs.declared.central_value.TheConstants.{INDICES_LIMIT}
use Rattle.pair_boxes.specs.declared.digits.Digit.{Digit}
use Rattle.pair_boxes.specs.declared.digits.Digits.{Digits}
use Rattle.pair_boxes.specs.declared.extent_lines.SlotLines.{SlotLines}

-- how many indices a state has, or how many values an input variable
abbrev pub count_in : Description → ℕ → ℕ
count_in p k = if nat_lt k (length p.states) then slice_index (counts_of (axes_of p)) k else value_count p.inputs (k - length p.states)

-- the slot that has these indices
abbrev pub slot_at : List Digit → (ℕ → ℕ) → ℕ
slot_at digits indices = sum_by (λ (d : Digit). indices d.variable * d.stride) digits

-- the index of a slot in a variable: the digit of that variable, or 0 where it has none
abbrev pub index_at : List Digit → ℕ → ℕ → ℕ
index_at [] variable slot = 0
index_at (d ∷ digits) variable slot = if variable == d.variable then slot / d.stride % d.count else index_at digits variable slot

-- indices are those of a slot
abbrev pub AreIndicesAt : List Digit → ℕ → List ℕ → Type 0
AreIndicesAt digits slot indices = (k : ℕ) → k < INDICES_LIMIT → slice_index indices k ≡ index_at digits k slot

-- so many slots lie in a line: from one to the next the index in one variable rises, and the others stay
abbrev pub LieAlong : List Digit → ℕ → ℕ → ℕ → Type 0
LieAlong digits along slot n = (j k : ℕ) → j < n → index_at digits k (slot + j) ≡ index_at digits k slot + (if k == along then j else 0)

-- All slots lie in lines along a state.
pub record LieInLines (p : Description) (digits : List Digit) (lines : SlotLines) : Type 0 where
  pub state : lines.along < length p.states
  pub some : 1 ≤ lines.count
  pub each : (slot n : ℕ) → slot % lines.count + n ≤ lines.count → LieAlong digits lines.along slot n

-- what each input brings to the slot of a pair
abbrev pub HoldSlots : Description → List Digit → List ℕ → Type 0
HoldSlots p digits inputs = (u : ℕ) → u < vectors_of p.inputs → slice_index_or inputs u 0 ≡ slot_at digits (index_in p 0 u)

-- a digit can be read from slots, as the index in its variable
abbrev pub IsReadable : Digit → Type 0
IsReadable d = (d.variable < INDICES_LIMIT) × (0 < d.count) × (0 < d.stride)

-- A digit is that of a variable on which extents depend.
pub record IsDigitOf (p : Description) (i : ℕ) (d : Digit) : Type 0 where
  pub variable : d.variable < length p.states + length p.inputs
  pub depends : IsTrue (depends_on p i d.variable)
  pub count : d.count ≡ count_in p d.variable

-- a variable has a digit
abbrev pub HasDigit : List Digit → ℕ → Type 0
HasDigit [] variable = ⊥
HasDigit (d ∷ digits) variable = (d.variable ≡ variable) ⊎ HasDigit digits variable

-- digits follow one another from a stride on: that of each is how many numbers those before it make
abbrev pub ArePacked : ℕ → List Digit → ℕ → Type 0
ArePacked stride [] all = stride ≡ all
ArePacked stride (d ∷ digits) all = (d.stride ≡ stride) × ArePacked (stride * d.count) digits all

-- The digits of an equation, one for each variable on which extents depend, and how many slots they make.
pub record AreDigitsOf (p : Description) (i : ℕ) (digits : List Digit) (slots : ℕ) : Type 0 where
  pub each : All (IsDigitOf p i) digits
  pub all : (k : ℕ) → k < length p.states + length p.inputs → IsTrue (depends_on p i k) → HasDigit digits k
  pub packed : ArePacked 1 digits slots
  pub few : slots ≤ pairs_of_plant p

-- A variable has a digit, above the others.
pub record IsWithDigit (variable count : ℕ) (old new : Digits) : Type 0 where
  pub each : new.each.items ≡ old.each.items ++ (record { variable = variable; count = count; stride = old.slots }) ∷ []
  pub slots : new.slots ≡ old.slots * count

-- The digits stay the same.
pub record IsAsBefore (old new : Digits) : Type 0 where
  pub each : new.each.items ≡ old.each.items
  pub slots : new.slots ≡ old.slots

-- the digit of a variable is added if extents depend on it
abbrev pub AddsIfDependent : Description → ℕ → ℕ → Digits → Digits → Type 0
AddsIfDependent p i variable old new = IsTrue (depends_on p i variable) → IsWithDigit variable (count_in p variable) old new

-- if they don't, none is
abbrev pub KeepsIfIndependent : Description → ℕ → ℕ → Digits → Digits → Type 0
KeepsIfIndependent p i variable old new = IsFalse (depends_on p i variable) → IsAsBefore old new
