use Rattle.row_reading.specs.inside.ReadTurns.{AreTurnsRead}
use Rattle.row_reading.proofs.turn_reader.read_turns.Given as goal

abbrev pub invariant-loop-turn : goal.invariant-loop-turn
invariant-loop-turn l = AreTurnsRead l.rules l.turn l.lines l.bytes l.rest l.answers.items
