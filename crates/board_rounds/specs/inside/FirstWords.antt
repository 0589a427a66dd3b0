-- The words with which a board begins.
use Rattle.std.specs.Prelude.{◌≡◌, ℕ, ◌+◌, ◌≤◌, List, ◌++◌, length, take, drop, replicate}
use Rattle.game_core.specs.Game.{Game}
use Rattle.board_rounds.specs.Boards.{fans_of, for_each_cell}

-- the numbers of the pairs, then those of the cells
abbrev pub first_numbers : Game → (ℕ → ℕ) → List ℕ
first_numbers g number = fans_of g ++ for_each_cell g number

-- these numbers, then zeros for the length of the log and for its slots
abbrev pub first_words : Game → (ℕ → ℕ) → List ℕ
first_words g number = first_numbers g number ++ replicate (1 + g.cells) 0

-- n of the words from one on
abbrev pub words_from : Game → (ℕ → ℕ) → ℕ → ℕ → List ℕ
words_from g number first n = take n (drop first (first_words g number))

-- zeros where words from one on are to stand
pub record AreUnfilled (g : Game) (number : ℕ → ℕ) (first : ℕ) (words : List ℕ) : Type 0 where
  pub zeros : words ≡ replicate (length words) 0
  pub within : first + length words ≤ length (first_words g number)
