-- The words and numbers of a script's lines. No public clause names this.
use Rattle.std.specs.Prelude.{◌≡◌, ℕ, ◌<◌, ◌≤◌, true, ℤ, pos, List, ◌∷◌, ◌++◌, length, codes}
use Rattle.std.specs.List.{All, flat_map}
use Rattle.std.specs.Fmt.{signed_decimal}
use Rattle.line_words.specs.Numbers.{IsLiteral}
use Rattle.line_words.specs.Separators.{is_separator, is_word}
use Rattle.command_line.specs.Command.{AreStateNumbers}
use Rattle.live_script.specs.Scripts.{ask_line}
use Rattle.base.specs.declared.limits.TheConstants.{STATES_LIMIT, TABLE_LIMIT}

-- The first byte is a space or a line feed.
pub record BeginsWithSeparator (bytes : List ℕ) : Type 0 where
  pub separator : ℕ
  pub after : List ℕ
  pub are : bytes ≡ separator ∷ after
  pub separates : is_separator separator ≡ true

-- a number at the front, and the bytes from the separator after it on
abbrev pub IsNumberAt : List ℕ → ℤ × List ℕ → Type 0
IsNumberAt bytes (z, rest) = IsLiteral z × BeginsWithSeparator rest × (bytes ≡ signed_decimal z ++ rest)

-- a word at the front, and the bytes from the separator after it on
abbrev pub IsWordAt : List ℕ → List ℕ × List ℕ → Type 0
IsWordAt bytes y = (is_word y.0 ≡ true) × BeginsWithSeparator y.1 × (bytes ≡ y.0 ++ y.1)

-- a space and a number at the front, and the bytes from the separator after it on
abbrev pub IsSpacedNumberAt : List ℕ → ℤ × List ℕ → Type 0
IsSpacedNumberAt bytes y = (word : List ℕ) × (bytes ≡ 32 ∷ word) × IsNumberAt word y

-- the numbers of a question whose line stands at the front, and the bytes after it
abbrev pub IsQuestionAt : List ℕ → List ℤ × List ℕ → Type 0
IsQuestionAt bytes y = AreStateNumbers y.0 × (bytes ≡ ask_line y.0 ++ y.1)

-- a question that stands at the front after so many tables, one at least, and the bytes after it
abbrev pub IsQuestionAfter : ℕ → List ℕ → List ℤ × List ℕ → Type 0
IsQuestionAfter tables bytes y = (0 < tables) × IsQuestionAt bytes y

-- the number is a size that a table's text may have
abbrev pub IsTableSize : ℤ → ℕ → Type 0
IsTableSize number size = (1 ≤ size) × (size ≤ TABLE_LIMIT) × (number ≡ pos size)

-- numbers, each after a space
abbrev pub spaced : List ℤ → List ℕ
spaced numbers = flat_map (λ z. 32 ∷ signed_decimal z) numbers

-- The rest of a question's line, some numbers of which are read: one at least is left.
pub record GoesOnWith (numbers : List ℤ) (rest : List ℕ) (all : List ℤ) (after : List ℕ) : Type 0 where
  pub left : List ℤ
  pub some : 0 < length left
  pub are : all ≡ numbers ++ left
  pub each : All IsLiteral left
  pub text : rest ≡ spaced left ++ 10 ∷ after

-- How far a question's line is read.
pub record IsReadSoFar (bytes : List ℕ) (numbers : List ℤ) (rest : List ℕ) : Type 0 where
  pub most : length numbers ≤ STATES_LIMIT
  pub each : All IsLiteral numbers
  pub text : bytes ≡ codes "ask" ++ (spaced numbers ++ rest)
  pub goes_on : (all : List ℤ) (after : List ℕ) → AreStateNumbers all → bytes ≡ ask_line all ++ after → GoesOnWith numbers rest all after
