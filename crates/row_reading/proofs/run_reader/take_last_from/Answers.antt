use Rattle.std.proofs.Common.{refl, arith}
use Rattle.row_reading.proofs.Digits.{one_read}
use Rattle.row_reading.proofs.run_reader.take_last_from.Goals as goal

pub returns-else-first-last : goal.returns-else-first-last
returns-else-first-last c = λ y h.
    let same = one_read 32 c.args.words.now (c.in_ok-last.last, c.in_ok-last.after.now) y refl c.in_ok-last.ensures h.1 in
    let ahead = h.0 in
    omega (arith, same.0, ahead, c.if-first-last.false)
