-- The lines of a text.
use Rattle.std.specs.Prelude.{ℕ, ◌==◌, List, [], ◌∷◌, if◌then◌else◌}

-- a byte at the front of the first of the pieces
abbrev pub with_front_byte : ℕ → List (List ℕ) → List (List ℕ)
with_front_byte b [] = (b ∷ []) ∷ []
with_front_byte b (piece ∷ pieces) = (b ∷ piece) ∷ pieces

-- the lines of a text: a line feed ends a line, and so does the end of the text where something stands after the last one
abbrev pub lines_of : List ℕ → List (List ℕ)
lines_of [] = []
lines_of (b ∷ bytes) = if b == 10 then [] ∷ lines_of bytes else with_front_byte b (lines_of bytes)
