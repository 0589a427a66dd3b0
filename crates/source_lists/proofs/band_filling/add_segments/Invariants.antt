use Rattle.std.proofs.Common.{take}
use Rattle.source_lists.specs.Shapes.{cells_from}
use Rattle.source_lists.specs.inside.Tallies.{slots_in}
use Rattle.source_lists.proofs.band_filling.add_segments.Given as goal

-- the pair is added at the cells of the segments so far
abbrev pub invariant-loop-segment : goal.invariant-loop-segment
invariant-loop-segment g l = g.I.Intake.IsAdded l.pair l.fn.intake l.intake (slots_in l.band.from l.band.len (cells_from l.first (take l.segment-index l.segments)))
