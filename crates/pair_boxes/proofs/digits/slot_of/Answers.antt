use Rattle.std.proofs.Common.{ℕ, ◌*◌, ◌∙◌, List, get_or, sum_by, refl, ap, arith}
use Rattle.std.proofs.lemmas.List.{take_all}
use Rattle.std.proofs.lemmas.List.Sums.{sum_by_more, sum_by_more_le}
use Rattle.pair_boxes.specs.declared.digits.Digit.{Digit}
use Rattle.pair_boxes.proofs.digits.slot_of.Goals as goal

abbrev no_digit : Digit
no_digit = record { variable = 0; count = 0; stride = 0 }

-- what a digit adds to the slot
abbrev brought : List ℕ → Digit → ℕ
brought indices d = get_or indices d.variable 0 * d.stride

pub loop-d-init : goal.loop-d-init
loop-d-init c = refl

pub offset_bounds-indices-d : goal.offset_bounds-indices-d
offset_bounds-indices-d c = omega (arith, c.requires.variables c.loop-d.d-index no_digit c.loop-d-test.true)

pub bounds-indices-d : goal.bounds-indices-d
bounds-indices-d c = c.requires.variables c.loop-d.d-index no_digit c.loop-d-test.true

pub overflow_mul-slot : goal.overflow_mul-slot
overflow_mul-slot c = omega (arith, c.requires.fits, sum_by_more_le (brought c.args.indices.now) c.args.digits.now c.loop-d.d-index no_digit c.loop-d-test.true)

pub overflow_add-slot : goal.overflow_add-slot
overflow_add-slot c = omega (arith, c.requires.fits, c.loop-d.invariant, sum_by_more_le (brought c.args.indices.now) c.args.digits.now c.loop-d.d-index no_digit c.loop-d-test.true)

pub loop-d-preserved : goal.loop-d-preserved
loop-d-preserved c = omega (arith, c.loop-d.invariant, sum_by_more (brought c.args.indices.now) c.args.digits.now c.loop-d.d-index no_digit c.loop-d-test.true)

pub returns : goal.returns
returns c = c.loop-d.invariant ∙ ap (sum_by (brought c.args.indices.now)) (take_all c.loop-d.d-index c.args.digits.now c.loop-d-test.false)
