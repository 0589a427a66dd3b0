use Rattle.std.proofs.Common.{rules, arith}
use Rattle.cell_counters.proofs.Steps.{note_allowed}
use Rattle.cell_counters.proofs.board.Board.note_as.Goals as goal

pub load-requires : goal.load-requires
load-requires g c = (search rules, omega arith, note_allowed _ _ _ _ _ c.hand.invariant.one)
