use Rattle.std.proofs.Common.{ℕ, ◌-◌, ◌++◌, arith, ap, sym, ◌∙◌, replicate, get_or}
use Rattle.std.proofs.lemmas.List.{length-set}
use Rattle.grid_quantiser.specs.Axes.{no_axis, counts_of}
use Rattle.grid_quantiser.proofs.AxisCounts.{few_indices}
use Rattle.grid_quantiser.proofs.Counts.{length-counts_of, each_count, written_more, kept_more, six_written}
use Rattle.grid_quantiser.proofs.grid.counts_in.Goals as goal

pub overflow_cast-counts : goal.overflow_cast-counts
overflow_cast-counts c = omega (arith, few_indices c.args.axes.now c.loop-i.i c.requires.axes c.requires.limit c.loop-i-test.true)

pub loop-i-preserved : goal.loop-i-preserved
loop-i-preserved c =
    let axes = c.args.axes.now in
    let i = c.loop-i.i in
    let v = (get_or axes i no_axis).count in
    let so_far = c.loop-i.invariant in
    record {
      six = length-set c.loop-i.counts i v ∙ so_far.six;
      each = written_more c.loop-i.counts i v 0 (λ k. get_or (counts_of axes) k 0) (omega (arith, so_far.six, c.requires.axes.states_bound, c.loop-i-test.true)) (sym (each_count axes i)) so_far.each;
      rest = kept_more c.loop-i.counts i v 0 so_far.rest;
    }

pub returns : goal.returns
returns c =
    let axes = c.args.axes.now in
    let so_far = c.loop-i.invariant in
    let long = length-counts_of axes in
    six_written c.loop-i.counts (counts_of axes) 0 so_far.six (omega (arith, long, c.requires.axes.states_bound)) (λ k lt. so_far.each k (omega (arith, lt, long, c.loop-i-test.false))) (λ k past. so_far.rest k (omega (arith, past, long, c.loop-i.auto.i-end)))
    ∙ ap (λ (n : ℕ). counts_of axes ++ replicate (6 - n) 0) long
