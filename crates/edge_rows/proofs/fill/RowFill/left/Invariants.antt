use Rattle.edge_rows.proofs.Fillings.{LeftSoFar}
use Rattle.edge_rows.proofs.fill.RowFill.left.Given as goal

-- what the rows so far have left
abbrev pub invariant-loop-row : goal.invariant-loop-row
invariant-loop-row l = LeftSoFar l.self l.row l.left
