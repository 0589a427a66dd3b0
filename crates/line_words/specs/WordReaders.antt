-- How a reader answers, and which words it finds.
use Rattle.std.specs.Prelude.{◌≡◌, ℕ, ℤ, List, ◌∷◌, Result, Ok, Err}
use Rattle.std.specs.Fmt.{signed_decimal}
use Rattle.line_words.specs.declared.line_fault.LineFault.{LineFault}
use Rattle.line_words.specs.declared.line_fault.LineFault.TheVariants.{Malformed, Memory}
use Rattle.line_words.specs.Names.{IsName}
use Rattle.line_words.specs.Numbers.{IsLiteral}

-- nothing fits, unless memory ran out
abbrev pub Refuses : {Y : Type 0} → (Y → Type 0) → LineFault → Type 0
Refuses Fits Malformed = (y : _) → Fits y → ⊥
Refuses Fits Memory = Unit {0}

-- what was found fits, seen by view
abbrev pub Finds : {X Y : Type 0} → (X → Y) → (Y → Type 0) → Result X LineFault → Type 0
Finds view Fits (Ok x) = Fits (view x)
Finds view Fits (Err e) = Refuses Fits e

-- nothing fits; for a reader that asks for no memory there is no other reason
abbrev pub RefusesInPlace : {Y : Type 0} → (Y → Type 0) → LineFault → Type 0
RefusesInPlace Fits Malformed = (y : _) → Fits y → ⊥
RefusesInPlace Fits Memory = ⊥

-- what was found fits, seen by view, and no memory was asked for
abbrev pub FindsInPlace : {X Y : Type 0} → (X → Y) → (Y → Type 0) → Result X LineFault → Type 0
FindsInPlace view Fits (Ok x) = Fits (view x)
FindsInPlace view Fits (Err e) = RefusesInPlace Fits e

-- a name at the front of the words, and the words after it
abbrev pub StartsWithName : List (List ℕ) → List ℕ × List (List ℕ) → Type 0
StartsWithName words y = IsName y.0 × (words ≡ y.0 ∷ y.1)

-- a number at the front of the words, and the words after it
abbrev pub StartsWithNumber : List (List ℕ) → ℤ × List (List ℕ) → Type 0
StartsWithNumber words y = IsLiteral y.0 × (words ≡ signed_decimal y.0 ∷ y.1)
