use Rattle.text_control.specs.inside.WordPositions.{IsNarrowed}
use Rattle.text_control.proofs.word_positions.search.Given as goal

abbrev pub invariant-loop-size : goal.invariant-loop-size
invariant-loop-size l = IsNarrowed l.words l.cell l.position l.size

abbrev pub decreases-loop-size : goal.decreases-loop-size
decreases-loop-size l = l.size
