use Rattle.std.proofs.Common.{◌≡◌, ◌∷◌, ◌++◌, [], ap, ◌∙◌, arith}
use Rattle.std.specs.Prelude.{ℤ}
use Rattle.live_script.proofs.QuestionLines.{widened, read_none, no_question_left, ended, read_more}
use Rattle.live_script.proofs.question_line.take_question.Goals as goal

pub loop-rest-init : goal.loop-rest-init
loop-rest-init c = rw c.empty-question.ensures (read_none c.args.bytes.now c.in_ok-rest.rest.now c.in_ok-rest.ensures)

pub returns-in_err-number : goal.returns-in_err-number
returns-in_err-number c = rw c.from_residual-in_err-number.ensures (λ y h. no_question_left c.args.bytes.now c.loop-rest.question c.loop-rest.rest.now c.loop-rest.invariant c.in_err-number.ensures y.0 y.1 h.0 h.1)

pub returns-in-Some : goal.returns-in-Some
returns-in-Some c =
    let numbers = c.loop-rest.question in
    let z = c.in_ok-number.number in
    let pushed : c.push.new.self ≡ numbers ++ z ∷ [] = c.push.ensures ∙ ap (λ (y : ℤ). numbers ++ y ∷ []) (widened z c.from.result c.in_ok-number.ensures.2.0 c.from.ensures) in
    rw pushed (ended c.args.bytes.now numbers c.loop-rest.rest.now c.in_ok-number.after.now c.in-Some.next.now z c.loop-rest.invariant (omega (arith, c.loop-rest-test.true, c.count.ensures)) c.in_ok-number.ensures c.in-Some.ensures)

pub loop-rest-preserved : goal.loop-rest-preserved
loop-rest-preserved c =
    let numbers = c.loop-rest.question in
    let z = c.in_ok-number.number in
    let pushed : c.push.new.self ≡ numbers ++ z ∷ [] = c.push.ensures ∙ ap (λ (y : ℤ). numbers ++ y ∷ []) (widened z c.from.result c.in_ok-number.ensures.2.0 c.from.ensures) in
    rw pushed (read_more c.args.bytes.now numbers c.loop-rest.rest.now c.in_ok-number.after.now z c.loop-rest.invariant (omega (arith, c.loop-rest-test.true, c.count.ensures)) c.in_ok-number.ensures c.in_default.ensures)
