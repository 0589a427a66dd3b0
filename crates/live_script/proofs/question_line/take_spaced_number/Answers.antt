use Rattle.live_script.proofs.question_line.take_spaced_number.Goals as goal

pub returns-in_err-word : goal.returns-in_err-word
returns-in_err-word c = rw c.from_residual.ensures (λ y h. c.in_err-word.ensures h.0 h.1)
