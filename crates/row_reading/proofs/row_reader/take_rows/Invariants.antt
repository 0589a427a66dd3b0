use Rattle.row_reading.specs.inside.ReadRows.{AreRead}
use Rattle.row_reading.proofs.row_reader.take_rows.Given as goal

abbrev pub invariant-loop-at : goal.invariant-loop-at
invariant-loop-at l = AreRead l.rules l.at l.before l.fn.bytes l.rest l.answer
