use Rattle.cell_counters.proofs.board.Board.log.Given as goal

-- the cell that is to be logged
abbrev pub ghosts-log_as : goal.ghosts-log_as
ghosts-log_as a = record { item = a.cell }
