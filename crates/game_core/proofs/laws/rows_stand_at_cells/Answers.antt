use Rattle.game_core.proofs.Rows.{below_from_row}
use Rattle.game_core.proofs.laws.rows_stand_at_cells.Goals as goal

pub returns : goal.returns
returns c = below_from_row
