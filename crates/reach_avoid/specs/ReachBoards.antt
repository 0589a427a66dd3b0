-- The board on which a reach game is solved.
use Rattle.std.specs.Prelude.{ℕ, List}
use Rattle.cell_counters.specs.declared.account.TheConstants.{NONE}
use Rattle.cell_counters.specs.BoardModels.{BoardModel}
use Rattle.game_core.specs.declared.game.Mark.{Mark}
use Rattle.game_core.specs.declared.game.Mark.TheVariants.{Goal, Obstacle, Plain}
use Rattle.game_core.specs.Game.{Game, mark_of}
use Rattle.board_rounds.specs.Boards.{IsBegunWith, fans_of, for_each_cell}

-- the number with which the minimum of a cell begins
abbrev pub word_at : Mark → ℕ
word_at Goal = 1
word_at Obstacle = 0
word_at Plain = NONE

-- the number with which a cell's minimum begins, by the mark that the cell has
abbrev pub word_for : Game → ℕ → ℕ
word_for g c = word_at (mark_of g c)

-- the numbers with which all minima begin
abbrev pub first_words : Game → List ℕ
first_words g = for_each_cell g (word_for g)

-- a counter for each pair, which begins as the number of its successors, a minimum for each cell, and a slot in the
-- log for each cell
abbrev pub IsBoardOf : Game → BoardModel → Type 0
IsBoardOf g board = IsBegunWith (fans_of g) (first_words g) g board
