-- Rows for each turn.
use Rattle.std.specs.Prelude.{ℕ, List, [], Option, slice_index_or}
use Rattle.game_core.specs.declared.game.Row.{Row}

-- the rows of a turn
abbrev pub rows_for : List (List (Option Row)) → ℕ → List (Option Row)
rows_for rows j = slice_index_or rows j []
