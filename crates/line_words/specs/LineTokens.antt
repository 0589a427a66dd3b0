-- The tokens of a line.
use Rattle.std.specs.Prelude.{ℕ, List}
use Rattle.std.specs.List.{flat_map}
use Rattle.line_words.specs.Words.{words_of}
use Rattle.line_words.specs.Tokens.{tokens_of}

-- the tokens of the words, one after the other
abbrev pub tokens_in : List ℕ → List (List ℕ)
tokens_in bytes = flat_map tokens_of (words_of bytes)
