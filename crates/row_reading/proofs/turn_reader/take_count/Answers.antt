use Rattle.std.proofs.Common.{drop, refl, sym, ap, ◌∙◌, arith}
use Rattle.row_reading.proofs.Digits.{one_read}
use Rattle.row_reading.proofs.RunWords.{count_words}
use Rattle.row_reading.proofs.turn_reader.take_count.Goals as goal

pub returns-else-count-most : goal.returns-else-count-most
returns-else-count-most c = λ y h.
    let number = ap (drop 5) (sym c.in_ok-number.ensures ∙ h.1 ∙ count_words y.0 y.1) in
    let same = one_read 10 c.in_ok-number.number.now (c.in_ok-count.count, c.in_ok-count.after.now) y refl c.in_ok-count.ensures (omega (arith, h.0, c.ranges.most.fits), number) in
    omega (arith, same.0, h.0, c.if-count-most.false)
