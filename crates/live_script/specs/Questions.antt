-- What a table answers to the numbers of a state.
use Rattle.std.specs.Prelude.{ℕ, ◌==◌, ℤ, List, length, Option, None, if◌then◌else◌}
use Rattle.grid_quantiser.specs.Cells.{point_of}
use Rattle.controller_table.specs.Tables.{TableModel}
use Rattle.controller_table.specs.Choice.{choice_at}

-- what a table answers: the input that it chooses at the state, or none where it chooses none or the numbers aren't as
-- many as its states
abbrev pub answer_of : TableModel → List ℤ → Option ℕ
answer_of table numbers = if length numbers == length table.plant.states then choice_at table.plant table.rows (point_of numbers) else None
