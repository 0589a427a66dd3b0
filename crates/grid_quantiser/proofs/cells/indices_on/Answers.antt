use Rattle.std.proofs.Common.{ℕ, arith, refl, ◌∙◌, below_more, get_or, pos, FitsSigned, rules}
use Rattle.std.specs.Int.{w128}
use Rattle.std.proofs.lemmas.Int.{to_z-of_z}
use Rattle.std.proofs.lemmas.List.{length-set}
use Rattle.grid_quantiser.specs.Axes.{no_axis}
use Rattle.grid_quantiser.specs.Cells.{index_of}
use Rattle.grid_quantiser.specs.Extents.{IsOnAxis}
use Rattle.grid_quantiser.proofs.AxisCounts.{few_indices}
use Rattle.grid_quantiser.proofs.Counts.{domain_each, domain_from_each, written_more}
use Rattle.grid_quantiser.proofs.cells.indices_on.Goals as goal

pub returns-in_err-indices-clause-inside : goal.returns-in_err-indices-clause-inside
returns-in_err-indices-clause-inside c =
    let fits : FitsSigned w128 (get_or c.args.x.now c.loop-i.i (pos 0)) = search rules in
    let outside = rw (to_z-of_z w128 (get_or c.args.x.now c.loop-i.i (pos 0)) fits) at c.in_err-indices.ensures.inside.1 in
    rw c.from_residual.ensures (λ h. cc, λ inside. outside (domain_each c.args.axes.now c.args.x.now c.loop-i.i inside c.loop-i-test.true))

pub overflow_cast-indices : goal.overflow_cast-indices
overflow_cast-indices c =
    omega (arith, c.in_ok-indices.ensures.below, few_indices c.args.axes.now c.loop-i.i c.requires.axes c.requires.limit c.loop-i-test.true)

pub loop-i-preserved : goal.loop-i-preserved
loop-i-preserved c =
    let axes = c.args.axes.now in
    let xs = c.args.x.now in
    let i = c.loop-i.i in
    let so_far = c.loop-i.invariant in
    let fits : FitsSigned w128 (get_or xs i (pos 0)) = search rules in
    let on = rw (to_z-of_z w128 (get_or xs i (pos 0)) fits) at (c.in_ok-indices.ensures.inside.0 refl) in
    let index = rw (to_z-of_z w128 (get_or xs i (pos 0)) fits) at c.in_ok-indices.ensures.index in
    record {
      six = length-set c.loop-i.indices i c.in_ok-indices.field-0 ∙ so_far.six;
      on = below_more (λ (k : ℕ). IsOnAxis (get_or axes k no_axis) (get_or xs k (pos 0))) i so_far.on on;
      each = written_more c.loop-i.indices i c.in_ok-indices.field-0 0 (λ k. index_of (get_or axes k no_axis) (get_or xs k (pos 0))) (omega (arith, so_far.six, c.requires.axes.states_bound, c.loop-i-test.true)) index so_far.each;
    }

pub returns-clause-inside : goal.returns-clause-inside
returns-clause-inside c =
    (λ h. domain_from_each c.args.axes.now c.args.x.now (omega (arith, c.told-x, c.requires.axes.states_bound)) (λ k lt. c.loop-i.invariant.on k (omega (arith, lt, c.loop-i-test.false))), λ h. refl)
