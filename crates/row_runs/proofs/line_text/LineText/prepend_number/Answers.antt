use Rattle.std.proofs.Common.{◌≤◌, drop, length, ap, arith, length-append, length-drop}
use Rattle.std.specs.Fmt.{decimal}
use Rattle.std.proofs.lemmas.Fmt.{length-decimal-le}
use Rattle.row_runs.proofs.line_text.LineText.prepend_number.Goals as goal

pub write_digits-self-inside-requires : goal.write_digits-self-inside-requires
write_digits-self-inside-requires c =
    let n = c.from.result in
    let digits : length (decimal n) ≤ 10 = length-decimal-le 10 n (omega arith) (omega (arith, c.from.ensures, c.ranges.number.fits)) (omega (arith, c.from.ensures, c.ranges.number.fits)) in
    (omega (arith, digits, c.requires, ap length c.self.view_is, length-drop c.self.inside.start c.self.inside.bytes, c.self.invariant), omega (arith, c.self.invariant))

pub returns-clause-length : goal.returns-clause-length
returns-clause-length c =
    let n = c.from.result in
    let digits : length (decimal n) ≤ 10 = length-decimal-le 10 n (omega arith) (omega (arith, c.from.ensures, c.ranges.number.fits)) (omega (arith, c.from.ensures, c.ranges.number.fits)) in
    let text = ap length c.write_digits-self-inside.ensures.written in
    omega (arith, digits, text, length-append (decimal n) (drop c.self.inside.start c.self.inside.bytes), ap length c.self.view_is)
