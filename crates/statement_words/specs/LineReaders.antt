-- What the words of a line spell after its keyword.
use Rattle.std.specs.Prelude.{◌≡◌, ℕ, ◌%◌, ◌≤◌, ℤ, pos, nat_abs, ◌+ℤ◌, ◌-ℤ◌, ◌≤ℤ◌, List, [], ◌∷◌, length, map}
use Rattle.std.specs.List.{All}
use Rattle.std.specs.Fmt.{signed_decimal}
use Rattle.plant_record.specs.declared.variables.StateVariable.{StateVariable}
use Rattle.plant_record.specs.declared.variables.InputVariable.{InputVariable}
use Rattle.plant_record.specs.declared.variables.NoiseVariable.{NoiseVariable}
use Rattle.plant_record.specs.declared.aims.StateBox.{StateBox}
use Rattle.plant_record.specs.declared.aims.GoalKind.{GoalKind}
use Rattle.plant_record.specs.declared.version.PlantVersion.{PlantVersion}
use Rattle.line_words.specs.Numbers.{IsLiteral}
use Rattle.plant_record.specs.Variables.{IsStateVariable, IsInputVariable, IsNoiseVariable}
use Rattle.plant_record.specs.StateBoxes.{IsStateBox, AreEnds}
use Rattle.plant_record.specs.Spelling.{version_word, end_words, goal_word}
use Rattle.base.specs.declared.limits.TheConstants.{VALUES_LIMIT}

-- the word after `plant` spells the version
abbrev pub SpellsVersion : List (List ℕ) → PlantVersion → Type 0
SpellsVersion words v = words ≡ version_word v ∷ []

-- the words after `state` spell a state: its name, its range and the width of its cells
abbrev pub SpellsState : List (List ℕ) → StateVariable → Type 0
SpellsState words s = (words ≡ s.name ∷ signed_decimal s.low ∷ signed_decimal s.high ∷ signed_decimal s.width ∷ []) × IsStateVariable s

-- the words after `input` spell an input variable: its name and its values
abbrev pub SpellsInput : List (List ℕ) → InputVariable → Type 0
SpellsInput words i = (words ≡ i.name ∷ map signed_decimal i.values) × IsInputVariable i

-- the words after `noise` spell a noise: its name and its range
abbrev pub SpellsNoise : List (List ℕ) → NoiseVariable → Type 0
SpellsNoise words w = (words ≡ w.name ∷ signed_decimal w.low ∷ signed_decimal w.high ∷ []) × IsNoiseVariable w

-- the words after a box's keyword spell the box: its two ends in each of n states
abbrev pub SpellsBox : ℕ → List (List ℕ) → StateBox → Type 0
SpellsBox n words b = (words ≡ end_words n b.low b.high) × IsStateBox n b

-- the word after `goal` spells the goal
abbrev pub SpellsGoal : List (List ℕ) → GoalKind → Type 0
SpellsGoal words kind = words ≡ goal_word kind ∷ []

-- a state's range is divided into whole cells
abbrev pub HasWholeCells : ℤ → ℤ → ℤ → Type 0
HasWholeCells low high width = (pos 1 ≤ℤ width) × (nat_abs ((high -ℤ low) +ℤ pos 1) % nat_abs width ≡ 0)

-- the range of a state and the width of its cells
abbrev pub SpellsCells : List (List ℕ) → ℤ × ℤ × ℤ → Type 0
SpellsCells words y =
    (words ≡ signed_decimal y.0 ∷ signed_decimal y.1 ∷ signed_decimal y.2 ∷ []) × AreEnds y.0 y.1 × IsLiteral y.2 × HasWholeCells y.0 y.1 y.2

-- two numbers in order at the front of the words
abbrev pub StartsWithEnds : List (List ℕ) → (ℤ × ℤ) × List (List ℕ) → Type 0
StartsWithEnds words y = AreEnds y.0.0 y.0.1 × (words ≡ signed_decimal y.0.0 ∷ signed_decimal y.0.1 ∷ y.1)

-- 1 to 64 numbers
abbrev pub SpellsValues : List (List ℕ) → List ℤ → Type 0
SpellsValues words zs = (words ≡ map signed_decimal zs) × (1 ≤ length zs) × (length zs ≤ VALUES_LIMIT) × All IsLiteral zs
