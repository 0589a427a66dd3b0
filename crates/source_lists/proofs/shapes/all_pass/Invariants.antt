use Rattle.std.proofs.Common.{All, take}
use Rattle.source_lists.specs.Shapes.{cells_from}
use Rattle.source_lists.proofs.shapes.all_pass.Given as goal

-- the cells of the segments so far pass
abbrev pub invariant-loop-segment : goal.invariant-loop-segment
invariant-loop-segment g l = All (g.T.CellTest.passes l.test) (cells_from l.first (take l.segment-index l.segments))
