use Rattle.std.proofs.Common.{◌∷◌, ◌∙◌}
use Rattle.std.specs.Prelude.{pos}
use Rattle.live_script.proofs.TableLines.{announced_number, size_read}
use Rattle.live_script.proofs.QuestionLines.{narrow}
use Rattle.live_script.proofs.table_line.take_announced.Goals as goal

pub returns-in_err-number-2 : goal.returns-in_err-number-2
returns-in_err-number-2 c = rw c.from_residual-in_err-number-2.ensures (λ y h. c.in_err-number-2.ensures (pos y.0, 10 ∷ y.1) (announced_number c.args.bytes.now c.in_ok-number.number.now y.0 y.1 c.in_ok-number.ensures h))

pub returns-in_err-after : goal.returns-in_err-after
returns-in_err-after c = rw c.from_residual-in_err-after.ensures (λ y h.
    c.in_err-after.ensures y.1 (size_read c.args.bytes.now c.in_ok-number.number.now c.in_ok-number-2.rest.now c.in_ok-number-2.number y.0 y.1 c.in_ok-number.ensures c.in_ok-number-2.ensures h).1)

pub returns-in_err-size : goal.returns-in_err-size
returns-in_err-size c = rw c.from_residual-in_err-size.ensures (λ y h.
    c.in_err-size.ensures y.0 h.some h.most (narrow c.in_ok-number-2.number c.in_ok-number-2.ensures.0 ∙ (size_read c.args.bytes.now c.in_ok-number.number.now c.in_ok-number-2.rest.now c.in_ok-number-2.number y.0 y.1 c.in_ok-number.ensures c.in_ok-number-2.ensures h).0))
