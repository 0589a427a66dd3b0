use Rattle.controller_table.proofs.RowsAtStates.{in_cell, row_stands}
use Rattle.loop_sim.proofs.laws.rows_stand_at_states.Goals as goal

pub returns : goal.returns
returns c p rows x row = (in_cell p rows x row, λ at. row_stands p rows x row at.0 at.1)
