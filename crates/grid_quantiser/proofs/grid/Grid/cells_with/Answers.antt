use Rattle.std.proofs.Common.{◌≡◌, ◌≢◌, ℕ, ◌<◌, ◌≤◌, arith, ap, sym, ◌∙◌, below_more, List, length, get_or, set, get_or-set_same, get_or-set_other, pos, FitsSigned, rules}
use Rattle.std.specs.Int.{w128}
use Rattle.std.proofs.lemmas.Int.{to_z-of_z}
use Rattle.std.proofs.lemmas.List.{length-set}
use Rattle.mixed_radix.specs.Radix.{number, AreDigits}
use Rattle.grid_quantiser.specs.declared.axis.Axis.{Axis}
use Rattle.grid_quantiser.specs.Axes.{no_axis, counts_of}
use Rattle.grid_quantiser.specs.inside.Overlaps.{AreIndicesIn}
use Rattle.grid_quantiser.proofs.AxisCounts.{few_indices}
use Rattle.grid_quantiser.proofs.Counts.{length-counts_of, each_count}
use Rattle.grid_quantiser.proofs.OverlapCells.{corners_of_indices, no_box, box_of_corners}
use Rattle.grid_quantiser.proofs.grid.Grid.cells_with.Goals as goal

pub returns-in_err-low-clause-cells : goal.returns-in_err-low-clause-cells
returns-in_err-low-clause-cells c =
    let axes = c.axes-axes.result.now in
    let k = c.loop-i.i in
    let fits_lo : FitsSigned w128 (get_or c.args.lo.now k (pos 0)) = search rules in
    let fits_hi : FitsSigned w128 (get_or c.args.hi.now k (pos 0)) = search rules in
    let none = simp to_z-of_z at c.in_err-low.ensures.some.1 in
    rw (c.from_residual.ensures, ← c.axes-axes.ensures.same) (no_box c.args.overlap axes c.args.lo.now c.args.hi.now k c.loop-i-test.true (λ has. absurd (let is_none = none has in cc)))

pub overflow_cast-first : goal.overflow_cast-first
overflow_cast-first c =
    let found = c.in_ok-low.ensures.indices in
    omega (arith, found.ordered, found.below, few_indices c.axes-axes.result.now c.loop-i.i c.axes-axes.ensures.axes c.axes-axes.ensures.limit c.loop-i-test.true)

pub overflow_cast-last : goal.overflow_cast-last
overflow_cast-last c =
    omega (arith, c.in_ok-low.ensures.indices.below, few_indices c.axes-axes.result.now c.loop-i.i c.axes-axes.ensures.axes c.axes-axes.ensures.limit c.loop-i-test.true)

pub loop-i-preserved : goal.loop-i-preserved
loop-i-preserved c =
    let axes = c.axes-axes.result.now in
    let overlap = c.args.overlap in
    let lo = c.args.lo.now in
    let hi = c.args.hi.now in
    let i = c.loop-i.i in
    let p = c.in_ok-low.low in
    let q = c.in_ok-low.high in
    let so_far = c.loop-i.invariant in
    let firsts = c.loop-i.first in
    let lasts = c.loop-i.last in
    let fits_lo : FitsSigned w128 (get_or lo i (pos 0)) = search rules in
    let fits_hi : FitsSigned w128 (get_or hi i (pos 0)) = search rules in
    let here = simp to_z-of_z at c.in_ok-low.ensures.indices in
    let short_first : i < length firsts = omega (arith, so_far.six_first, c.axes-axes.ensures.axes.states_bound, c.loop-i-test.true) in
    let short_last : i < length lasts = omega (arith, so_far.six_last, c.axes-axes.ensures.axes.states_bound, c.loop-i-test.true) in
    record {
      six_first = length-set firsts i p ∙ so_far.six_first;
      six_last = length-set lasts i q ∙ so_far.six_last;
      each = below_more (λ (k : ℕ). AreIndicesIn overlap (get_or axes k no_axis) (get_or lo k (pos 0)) (get_or hi k (pos 0)) (get_or (set firsts i p) k 0) (get_or (set lasts i q) k 0)) i
          (λ k lt. let ne : k ≢ i = omega (arith, lt) in rw (get_or-set_other firsts i k p 0 ne, get_or-set_other lasts i k q 0 ne) (so_far.each k lt))
          (rw (get_or-set_same firsts i p 0 short_first, get_or-set_same lasts i q 0 short_last) here);
    }

-- the corners' indices are digits
digits_of : (axes : List Axis) (counts ps : List ℕ) → counts ≡ counts_of axes → length axes ≤ length ps → ((k : ℕ) → k < length axes → get_or ps k 0 < (get_or axes k no_axis).count) → AreDigits counts ps
digits_of axes counts ps same long below = rw same (record { long = omega (arith, long, length-counts_of axes); below = λ k lt. omega (arith, below k (omega (arith, lt, length-counts_of axes)), each_count axes k) })

pub encode-requires-clause-digits : goal.encode-requires-clause-digits
encode-requires-clause-digits c =
    let axes = c.axes-axes.result.now in
    let so_far = c.loop-i.invariant in
    digits_of axes c.counts-counts.result.now c.loop-i.first (c.counts-counts.ensures.same ∙ ap counts_of (sym c.axes-axes.ensures.same)) (omega (arith, so_far.six_first, c.axes-axes.ensures.axes.states_bound))
    (λ k lt. let found = so_far.each k (omega (arith, lt, c.loop-i-test.false)) in omega (arith, found.ordered, found.below))

pub encode-requires-2-clause-digits : goal.encode-requires-2-clause-digits
encode-requires-2-clause-digits c =
    let axes = c.axes-axes.result.now in
    let so_far = c.loop-i.invariant in
    digits_of axes c.counts-counts.result.now c.loop-i.last (c.counts-counts.ensures.same ∙ ap counts_of (sym c.axes-axes.ensures.same)) (omega (arith, so_far.six_last, c.axes-axes.ensures.axes.states_bound))
    (λ k lt. (so_far.each k (omega (arith, lt, c.loop-i-test.false))).below)

pub returns-clause-cells : goal.returns-clause-cells
returns-clause-cells c =
    let axes = c.axes-axes.result.now in
    let so_far = c.loop-i.invariant in
    let bound = c.axes-axes.ensures.axes.states_bound in
    let corners = corners_of_indices c.args.overlap axes c.args.lo.now c.args.hi.now c.loop-i.first c.loop-i.last c.axes-axes.ensures.axes.each (omega (arith, bound, c.told-lo)) (omega (arith, bound, c.told-hi)) (omega (arith, bound, so_far.six_first)) (omega (arith, bound, so_far.six_last)) (λ k lt. so_far.each k (omega (arith, lt, c.loop-i-test.false))) in
    rw (c.encode.ensures.number, c.encode-2.ensures.number, c.counts-counts.ensures.same, ← c.axes-axes.ensures.same)
    (box_of_corners c.args.overlap axes c.args.lo.now c.args.hi.now (record { first = number (counts_of axes) c.loop-i.first; last = number (counts_of axes) c.loop-i.last }) c.axes-axes.ensures.axes.each corners)
