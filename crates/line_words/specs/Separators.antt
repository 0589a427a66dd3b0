-- Words that no space and no line feed breaks.
use Rattle.std.specs.Prelude.{ℕ, Bool, not, ◌||◌, ◌==◌, List}
use Rattle.std.specs.List.{list_all}

-- a space or a line feed
abbrev pub is_separator : ℕ → Bool
is_separator b = b == 32 || b == 10

-- no byte is a separator
abbrev pub is_word : List ℕ → Bool
is_word w = list_all (λ b. not (is_separator b)) w
