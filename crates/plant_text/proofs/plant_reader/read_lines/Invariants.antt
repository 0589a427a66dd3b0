use Rattle.std.proofs.Common.{length}
use Rattle.plant_text.specs.inside.ReadUpTo.{IsReadUpTo}
use Rattle.plant_text.specs.inside.DraftsInMemory.{partial_of}
use Rattle.plant_text.proofs.plant_reader.read_lines.Given as goal

abbrev pub invariant-loop-line : goal.invariant-loop-line
invariant-loop-line l = IsReadUpTo l.fn.bytes l.rest l.number (partial_of l.draft)

abbrev pub decreases-loop-line : goal.decreases-loop-line
decreases-loop-line l = length l.rest
