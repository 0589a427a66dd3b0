-- The words of a line.
use Rattle.std.specs.Prelude.{◌≡◌, ℕ, ℤ, Bool, true, ◌||◌, ◌==◌, List, [], ◌∷◌, slice_index, if◌then◌else◌}
use Rattle.std.specs.Fmt.{signed_decimal}
use Rattle.line_words.specs.Numbers.{IsLiteral}
use Rattle.line_words.specs.Lines.{with_front_byte}

-- a space, a tab or a carriage return
abbrev pub is_blank : ℕ → Bool
is_blank b = b == 32 || (b == 9 || b == 13)

-- whether no word begins at the front
abbrev pub ends_word : List ℕ → Bool
ends_word [] = true
ends_word (b ∷ bytes) = is_blank b

-- the words of a line, which blanks set apart
abbrev pub words_of : List ℕ → List (List ℕ)
words_of [] = []
words_of (b ∷ bytes) =
    if is_blank b then words_of bytes else (if ends_word bytes then (b ∷ []) ∷ words_of bytes else with_front_byte b (words_of bytes))

-- a line of blanks, or one whose first word begins with `#`
abbrev pub is_skipped : List ℕ → Bool
is_skipped line = skipped (words_of line)
  where
    skipped : List (List ℕ) → Bool
    skipped [] = true
    skipped (word ∷ words) = slice_index word 0 == 35

-- the word is the one spelling of the number, which has at most 18 digits
abbrev pub IsSpellingOf : ℤ → List ℕ → Type 0
IsSpellingOf z word = IsLiteral z × (word ≡ signed_decimal z)
