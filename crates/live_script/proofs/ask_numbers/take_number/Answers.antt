use Rattle.std.proofs.Common.{sym, ◌∙◌}
use Rattle.std.specs.Fmt.{signed_decimal}
use Rattle.line_words.proofs.lemmas.NumberBytes.{number_word}
use Rattle.live_script.proofs.WordsCut.{one_word}
use Rattle.live_script.proofs.ask_numbers.take_number.Goals as goal

pub returns-in_err-word : goal.returns-in_err-word
returns-in_err-word c = rw c.from_residual.ensures (λ y h. c.in_err-word.ensures (signed_decimal y.0, y.1) (number_word y.0 h.0, h.1, h.2))

pub returns-in_err-number : goal.returns-in_err-number
returns-in_err-number c = rw c.from_residual-in_err-number.ensures (λ y h.
    let cut = c.in_ok-word.ensures in
    c.in_err-number.ensures y.0 (h.0, (one_word c.in_ok-word.word.now (signed_decimal y.0) c.in_ok-word.rest.now y.1 cut.0 (number_word y.0 h.0) cut.1 h.1 (sym cut.2 ∙ h.2)).0))
