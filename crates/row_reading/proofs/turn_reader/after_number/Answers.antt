use Rattle.std.proofs.Common.{ℕ, List, ◌∷◌, ◌++◌, drop, refl, sym, ap, ◌∙◌, arith}
use Rattle.std.specs.Prelude.{codes}
use Rattle.std.specs.Fmt.{decimal}
use Rattle.row_reading.proofs.Digits.{one_read}
use Rattle.row_reading.proofs.turn_reader.after_number.Goals as goal

pub returns-in_err-number : goal.returns-in_err-number
returns-in_err-number c = rw c.from_residual-in_err-number.ensures (λ rest h.
    let fits = c.ranges.turn.fits in
    c.in_err-number.ensures (c.args.turn, rest) (omega (arith, fits), ap (drop 5) (sym c.in_ok-words.ensures ∙ h)))

pub returns-then-number-turn : goal.returns-then-number-turn
returns-then-number-turn c =
    let number = c.in_ok-number.ensures.1 ∙ ap (λ (n : ℕ). decimal n ++ 32 ∷ c.in_ok-number.rest.now) c.if-number-turn.true in
    c.in_ok-words.ensures ∙ ap (λ (x : List ℕ). codes "turn " ++ x) number

pub returns-else-number-turn : goal.returns-else-number-turn
returns-else-number-turn c = λ rest h.
    let fits = c.ranges.turn.fits in
    let same = one_read 32 c.in_ok-words.words.now (c.in_ok-number.number, c.in_ok-number.rest.now) (c.args.turn, rest) refl c.in_ok-number.ensures (omega (arith, fits), ap (drop 5) (sym c.in_ok-words.ensures ∙ h)) in
    c.if-number-turn.false same.0
