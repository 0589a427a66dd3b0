use Rattle.std.proofs.Common.{length, length-append, ap, subst, sym, arith}
use Rattle.row_reading.specs.RowsTexts.{head_line}
use Rattle.row_reading.specs.TurnSteps.{IsRefusedAt}
use Rattle.row_reading.specs.inside.ReadRows.{IsRunRefused}
use Rattle.row_reading.specs.inside.ReadTurns.{IsTurnRefused}
use Rattle.row_reading.proofs.Further.{fault_on}
use Rattle.row_reading.proofs.TurnsRead.{no_head, row_refused, line_bound_from}
use Rattle.row_reading.proofs.turn_reader.take_turn.Goals as goal

pub returns-in_default-clause-refused : goal.returns-in_default-clause-refused
returns-in_default-clause-refused c = no_head c.args.rules c.args.turn c.args.bytes.now c.requires.turn c.in_default.ensures

pub after-requires : goal.after-requires
after-requires c = λ line is.
    let rules = c.args.rules in
    let refused = rw is at c.in-Err.ensures.refused in
    let first = line_bound_from rules _ c.in-Some.rest.now line (refused rules.turns rules.head c.args.turn) in
    omega (arith, first, ap length c.in-Some.ensures.1, length-append (head_line rules.head c.args.turn c.in-Some.count) c.in-Some.rest.now, c.requires.size)

pub returns-in-Err-clause-refused : goal.returns-in-Err-clause-refused
returns-in-Err-clause-refused c =
    let rules = c.args.rules in
    subst (IsRefusedAt (IsTurnRefused rules c.args.turn c.args.bytes.now)) (sym c.after.ensures)
    (fault_on (IsRunRefused rules.rows c.in-Some.count c.in-Some.rest.now) (IsTurnRefused rules c.args.turn c.args.bytes.now) 1
    (row_refused rules c.args.turn c.in-Some.count c.args.bytes.now c.in-Some.rest.now c.requires.turn c.in-Some.ensures) c.in-Err.fault c.in-Err.ensures.refused)
