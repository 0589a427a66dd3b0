use Rattle.cell_counters.proofs.board.Board.note.Given as goal

-- the item that the load is to note
abbrev pub ghosts-note_as : goal.ghosts-note_as
ghosts-note_as a = record { item = a.item }
