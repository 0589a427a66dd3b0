use Rattle.std.proofs.Common.{drop, sym, ap, ◌∙◌}
use Rattle.row_reading.proofs.run_reader.take_unranked_row.Goals as goal

pub returns-in_err-input : goal.returns-in_err-input
returns-in_err-input c = rw c.from_residual-in_err-input.ensures (λ y h. c.in_err-input.ensures (y.0.input, y.1) (h.0.input, ap (drop 2) (sym c.in_ok-word.ensures ∙ h.1)))
