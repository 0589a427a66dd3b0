use Rattle.std.proofs.Common.{refl}
use Rattle.row_reading.proofs.Digits.{one_read}
use Rattle.row_reading.proofs.run_reader.take_full_row.Goals as goal

pub returns-in_err-rank : goal.returns-in_err-rank
returns-in_err-rank c = rw c.from_residual.ensures (λ y h. c.in_err-rank.ensures (y.0.rank, _) (h.0.rank, h.1))

pub returns-in_err-input : goal.returns-in_err-input
returns-in_err-input c = rw c.from_residual-in_err-input.ensures (λ y h.
    let told = one_read 32 c.args.words.now (c.in_ok-rank.rank, c.in_ok-rank.word.now) (y.0.rank, _) refl c.in_ok-rank.ensures (h.0.rank, h.1) in
    c.in_err-input.ensures (y.0.input, y.1) (h.0.input, told.1))
