use Rattle.std.proofs.Common.{length}
use Rattle.plant_text.specs.inside.DraftsInMemory.{partial_of}
use Rattle.plant_text.specs.inside.ReadInFront.{IsReadInFront}
use Rattle.plant_text.proofs.front_reader.read_lines.Given as goal

abbrev pub invariant-loop-alloc : goal.invariant-loop-alloc
invariant-loop-alloc l = IsReadInFront l.fn.bytes l.rest l.number (partial_of l.draft)

abbrev pub decreases-loop-alloc : goal.decreases-loop-alloc
decreases-loop-alloc l = length l.rest
