-- The tokens of a word.
use Rattle.std.specs.Prelude.{ℕ, Bool, true, ◌||◌, ◌&&◌, List, [], ◌∷◌, ◌++◌, if◌then◌else◌}
use Rattle.line_words.specs.Names.{is_letter, is_digit, is_name_byte}

-- whether a byte goes on with a token: a name with letters, digits and `_`, a number with digits
abbrev pub goes_on : List ℕ → ℕ → Bool
goes_on [] b = true
goes_on (first ∷ token) b = (is_letter first && is_name_byte b) || (is_digit first && is_digit b)

-- the tokens of a word of which one is begun: each is as long as it can be
abbrev pub tokens_after : List ℕ → List ℕ → List (List ℕ)
tokens_after token [] = token ∷ []
tokens_after token (b ∷ bytes) = if goes_on token b then tokens_after (token ++ b ∷ []) bytes else token ∷ tokens_after (b ∷ []) bytes

-- the tokens of a word
abbrev pub tokens_of : List ℕ → List (List ℕ)
tokens_of [] = []
tokens_of (b ∷ bytes) = tokens_after (b ∷ []) bytes
