use Rattle.command_line.proofs.outcome.Refusal.report.Goals as goal

pub returns-in-Malformed : goal.returns-in-Malformed
returns-in-Malformed g c = rw c.in-Malformed.is c.report_number.ensures

pub returns-in-Overflow : goal.returns-in-Overflow
returns-in-Overflow g c = rw c.in-Overflow.is c.report_overflow.ensures

pub returns-in-Invalid : goal.returns-in-Invalid
returns-in-Invalid g c = rw c.in-Invalid.is (rw c.from.ensures at c.report_number-in-Invalid.ensures)

pub returns-in-Limit : goal.returns-in-Limit
returns-in-Limit g c = rw (c.in-Limit.is, ← c.limit_line.ensures) c.report_pieces.ensures

pub returns-in-TooManyTurns : goal.returns-in-TooManyTurns
returns-in-TooManyTurns g c = rw c.in-TooManyTurns.is c.report_pieces-in-TooManyTurns.ensures

pub returns-in-ScriptTooLong : goal.returns-in-ScriptTooLong
returns-in-ScriptTooLong g c = rw c.in-ScriptTooLong.is c.report_pieces-in-ScriptTooLong.ensures

pub returns-in-TooManyTables : goal.returns-in-TooManyTables
returns-in-TooManyTables g c = rw c.in-TooManyTables.is c.report_pieces-in-TooManyTables.ensures

pub returns-in-NoRow : goal.returns-in-NoRow
returns-in-NoRow g c = rw c.in-NoRow.is c.report_pieces-in-NoRow.ensures
