use Rattle.std.proofs.Common.{arith}
use Rattle.row_reading.proofs.RowsRead.{all_read, nothing_read, read_on, run_refused}
use Rattle.row_reading.proofs.row_reader.take_rows.Goals as goal

pub loop-at-init : goal.loop-at-init
loop-at-init c = nothing_read c.args.rules c.args.bytes.now c.in_ok-answer.answer c.in_ok-answer.ensures

pub loop-at-preserved : goal.loop-at-preserved
loop-at-preserved c =
    read_on c.args.rules c.args.bytes.now c.loop-at.at c.loop-at.before c.loop-at.rest.now c.loop-at.answer c.loop-at.invariant c.in-Some.run' c.in-Some.after.now c.fill_run.new.answer c.in-Some.ensures c.fill_run.ensures.rows c.fill_run.ensures.length

pub returns-in_default-clause-refused : goal.returns-in_default-clause-refused
returns-in_default-clause-refused c =
    run_refused c.args.rules c.args.bytes.now c.loop-at.at c.loop-at.before c.loop-at.rest.now c.loop-at.answer c.loop-at.invariant c.args.count c.loop-at-test.true c.in_default.ensures

pub returns-clause-read : goal.returns-clause-read
returns-clause-read c =
    all_read c.args.rules c.loop-at.at c.args.count c.loop-at.before c.args.bytes.now c.loop-at.rest.now c.loop-at.answer (omega (arith, c.loop-at-test.false, c.loop-at.auto.at-end)) c.loop-at.invariant
