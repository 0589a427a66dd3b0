use Rattle.row_reading.proofs.LinesRead.{no_dash, no_input}
use Rattle.row_reading.proofs.run_reader.take_ranked_row.Goals as goal

pub returns-in_err-rank : goal.returns-in_err-rank
returns-in_err-rank c = rw c.from_residual.ensures (λ y h. c.in_err-rank.ensures (y.0.rank, _) (h.0.rank, h.1))

pub returns-in_err-after : goal.returns-in_err-after
returns-in_err-after c = rw c.from_residual-in_err-after.ensures (no_dash c.args.words.now c.in_ok-rank.rank c.in_ok-rank.word.now c.in_ok-rank.ensures c.if-rank-eq0.true c.in_err-after.ensures)

pub returns-in_err-input : goal.returns-in_err-input
returns-in_err-input c = rw c.from_residual-in_err-input.ensures (no_input c.args.words.now c.in_ok-rank.rank c.in_ok-rank.word.now c.in_ok-rank.ensures c.if-rank-eq0.false c.in_err-input.ensures)
