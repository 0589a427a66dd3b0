-- The board on which a keep game is solved.
use Rattle.std.specs.Prelude.{ℕ, ◌*◌, nat_lt, List, [], ◌++◌, length, count_by}
use Rattle.std.specs.List.{range_with_len}
use Rattle.cell_counters.specs.BoardModels.{BoardModel}
use Rattle.game_core.specs.Game.{Game, successors_at}
use Rattle.board_rounds.specs.Boards.{IsBegunWith, fans_of, for_each_cell}

-- the pairs of a cell
abbrev pub pairs_at : Game → ℕ → List ℕ
pairs_at g c = range_with_len (c * g.inputs) g.inputs

-- how many inputs of a cell are enabled
abbrev pub enabled_at : Game → ℕ → ℕ
enabled_at g c = count_by (λ pair. nat_lt 0 (length (successors_at g pair))) (pairs_at g c)

-- the numbers with which all counters begin: of each pair its successors, then of each cell its enabled inputs
abbrev pub counters_of : Game → List ℕ
counters_of g = fans_of g ++ for_each_cell g (enabled_at g)

-- counters for the pairs and for the cells, no minimum, and a slot in the log for each cell
abbrev pub IsBoardOf : Game → BoardModel → Type 0
IsBoardOf g board = IsBegunWith (counters_of g) [] g board
