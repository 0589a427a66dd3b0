use Rattle.std.proofs.Common.{ℕ, ◌*◌, ◌∙◌, sum_by, ap, arith}
use Rattle.std.specs.Prelude.{◌==◌, if◌then◌else◌}
use Rattle.std.proofs.lemmas.Bool.{eqb-true, eq-eqb}
use Rattle.std.proofs.lemmas.List.{take_all}
use Rattle.std.proofs.lemmas.List.Sums.{sum_by_more, sum_by_more_le}
use Rattle.pair_boxes.specs.declared.digits.Digit.{Digit}
use Rattle.pair_boxes.proofs.terms.TermTable.step.Goals as goal
use Rattle.pair_boxes.proofs.terms.TermTable.step.Goals.{then-d-last, else-d-last}

abbrev no_digit : Digit
no_digit = record { variable = 0; count = 0; stride = 0 }

-- what a digit adds to the step
abbrev added : ℕ → Digit → ℕ
added last d = (if d.variable == last then 1 else 0) * d.stride

pub overflow_add-step : goal.overflow_add-step
overflow_add-step c =
    let digits = c.deref-d-items.result.now in
    grind (arith, eq-eqb, c.requires.fits, ap (sum_by (added c.args.last)) c.deref-d-items.ensures.value, c.loop-d.invariant, c.if-d-last.true, sum_by_more_le (added c.args.last) digits c.loop-d.d-index no_digit c.loop-d-test.true)

pub loop-d-preserved : goal.loop-d-preserved
loop-d-preserved c =
    let digits = c.deref-d-items.result.now in
    let more = sum_by_more (added c.args.last) digits c.loop-d.d-index no_digit c.loop-d-test.true in
    elim c.if-d-last.branch [
      | then-d-last w ↦ grind (arith, eqb-true, eq-eqb, w.step-is, c.loop-d.invariant, more, w.if-d-last.true)
      | else-d-last w ↦ grind (arith, eqb-true, eq-eqb, w.step-is, c.loop-d.invariant, more, w.if-d-last.false)
    ]

pub returns : goal.returns
returns c = c.loop-d.invariant ∙ ap (sum_by (added c.args.last)) (take_all c.loop-d.d-index c.deref-d-items.result.now c.loop-d-test.false ∙ c.deref-d-items.ensures.value)
