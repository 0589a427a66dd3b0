use Rattle.std.proofs.Common.{◌∙◌}
use Rattle.row_reading.proofs.RunWords.{run_words}
use Rattle.row_reading.proofs.LinesRead.{no_last, no_row}
use Rattle.row_reading.proofs.run_reader.take_run.Goals as goal

pub returns-in_err-first : goal.returns-in_err-first
returns-in_err-first c = rw c.from_residual.ensures (λ y h. c.in_err-first.ensures (y.0.first, _) (h.0.first, h.1 ∙ run_words c.args.version c.args.format y.0 y.1))

pub returns-in_err-last : goal.returns-in_err-last
returns-in_err-last c = rw c.from_residual-in_err-last.ensures (no_last c.args.version c.args.format c.args.bytes.now c.in_ok-first.first c.in_ok-first.more.now c.in_ok-first.ensures c.in_err-last.ensures)

pub returns-in_err-row : goal.returns-in_err-row
returns-in_err-row c =
    rw c.from_residual-in_err-row.ensures (no_row c.args.version c.args.format c.args.bytes.now c.in_ok-first.first c.in_ok-first.more.now c.in_ok-first.ensures c.in_ok-last.last c.in_ok-last.words.now c.in_ok-last.ensures c.in_err-row.ensures)
