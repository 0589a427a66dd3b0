use Rattle.source_lists.specs.inside.CellRanges.{range_start}
use Rattle.source_lists.specs.inside.Intakes.{AreAdded}
use Rattle.source_lists.specs.inside.Tallies.{slots_of}
use Rattle.source_lists.proofs.band_filling.add_pairs.Given as goal

-- the pairs before this range are added
abbrev pub invariant-loop-k : goal.invariant-loop-k
invariant-loop-k g l = AreAdded g.I.Intake.IsAdded (slots_of l.grid l.boxes l.band.from l.band.len) (range_start l.boxes l.k) l.fn.intake l.intake

-- the pairs before this one are added
abbrev pub invariant-loop-pair : goal.invariant-loop-pair
invariant-loop-pair g l = AreAdded g.I.Intake.IsAdded (slots_of l.grid l.boxes l.band.from l.band.len) l.pair l.fn.intake l.intake
