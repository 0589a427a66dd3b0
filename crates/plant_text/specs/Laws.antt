-- What holds of every plant text.
use Rattle.std.specs.Prelude.{◌≡◌, ℕ, ℤ, List, ◌++◌, true}
use Rattle.std.specs.Fmt.{signed_decimal}
use Rattle.line_words.specs.Separators.{is_word}
use Rattle.line_words.specs.Numbers.{IsLiteral}
use Rattle.plant_record.specs.Description.{Description}
use Rattle.plant_writing.specs.CanonicalText.{text_of}
use Rattle.plant_text.specs.declared.plant_fault.PlantFault.{PlantFault}
use Rattle.plant_record.specs.Plants.{IsPlant}
use Rattle.plant_record.specs.Limits.{IsWithinLimits}
use Rattle.plant_text.specs.Grammar.{Spells}
use Rattle.plant_text.specs.CanonicalFronts.{IsFront, IsFrontRefusedFor}
use Rattle.plant_text.specs.PlantRefusals.{IsShort, IsRefusedFor}

-- no bytes spell two plants
abbrev pub OnePlantPerText : Type 0
OnePlantPerText = (bytes : List ℕ) (p q : Description) → Spells bytes p → Spells bytes q → p ≡ q

-- what a text spells is a plant
abbrev pub SpelledPlantsArePlants : Type 0
SpelledPlantsArePlants = (bytes : List ℕ) (p : Description) → Spells bytes p → IsPlant p

-- the canonical text of a plant spells it
abbrev pub CanonicalTextsSpell : Type 0
CanonicalTextsSpell = (p : Description) → IsPlant p → Spells (text_of p) p

-- a text starts with the canonical text of at most one plant
abbrev pub OnePlantAtTheFront : Type 0
OnePlantAtTheFront =
    (first second : Description) (rest others : List ℕ) → IsPlant first → IsPlant second → text_of first ++ rest ≡ text_of second ++ others → (first ≡ second) × (rest ≡ others)

-- a text has at most one reason to be refused
abbrev pub OneRefusal : Type 0
OneRefusal = (bytes : List ℕ) (f g : PlantFault) → IsRefusedFor bytes f → IsRefusedFor bytes g → f ≡ g

-- no text is refused that spells a plant within the limits, if it is short
abbrev pub NoPlantTextIsRefused : Type 0
NoPlantTextIsRefused = (bytes : List ℕ) (p : Description) (f : PlantFault) → Spells bytes p → IsShort bytes → IsWithinLimits p → IsRefusedFor bytes f → ⊥

-- no text is neither that of a plant within the limits, if it is short, nor refused
abbrev pub NoPlantTextIsNeither : Type 0
NoPlantTextIsNeither = (bytes : List ℕ) → ((p : Description) → Spells bytes p → IsShort bytes → IsWithinLimits p → ⊥) → ((f : PlantFault) → IsRefusedFor bytes f → ⊥) → ⊥

-- no byte of a number's text is a separator
abbrev pub NumbersAreWords : Type 0
NumbersAreWords = (z : ℤ) → IsLiteral z → is_word (signed_decimal z) ≡ true

-- no bytes have two plants at their front
abbrev pub OneFront : Type 0
OneFront = (bytes : List ℕ) (p q : Description) (m n : ℕ) → IsFront bytes p m → IsFront bytes q n → (p ≡ q) × (m ≡ n)

-- bytes have at most one reason why no plant is read at their front
abbrev pub OneFrontRefusal : Type 0
OneFrontRefusal = (bytes : List ℕ) (f g : PlantFault) → IsFrontRefusedFor bytes f → IsFrontRefusedFor bytes g → f ≡ g

-- no front is refused that holds a plant within the limits
abbrev pub NoFrontIsRefused : Type 0
NoFrontIsRefused = (bytes : List ℕ) (p : Description) (count : ℕ) (f : PlantFault) → IsFront bytes p count → IsWithinLimits p → IsFrontRefusedFor bytes f → ⊥

-- no bytes have neither a plant within the limits at their front nor a reason why none is read there
abbrev pub NoFrontIsNeither : Type 0
NoFrontIsNeither = (bytes : List ℕ) → ((p : Description) (count : ℕ) → IsFront bytes p count → IsWithinLimits p → ⊥) → ((f : PlantFault) → IsFrontRefusedFor bytes f → ⊥) → ⊥

-- the canonical text of a plant within the limits, if it is short, spells no other plant and is refused for nothing
abbrev pub CanonicalTextsReadBack : Type 0
CanonicalTextsReadBack = (p : Description) → IsWithinLimits p → IsShort (text_of p) → ((q : Description) → Spells (text_of p) q → q ≡ p) × ((f : PlantFault) → IsRefusedFor (text_of p) f → ⊥)
