use Rattle.std.proofs.Common.{◌<◌, ◌≤ℤ◌, arith, refl, FitsSigned, rules}
use Rattle.std.specs.Int.{w128}
use Rattle.std.proofs.lemmas.Bool.{false≢true}
use Rattle.std.proofs.lemmas.Int.{ints, to_z-of_z}
use Rattle.grid_quantiser.proofs.AxisNumbers.{width_below}
use Rattle.grid_quantiser.proofs.OverlapNumbers.{AreCounted, counted, first, end, each_index, some_indices}
use Rattle.grid_quantiser.proofs.axis.Axis.indices_in.Goals as goal
use Rattle.grid_quantiser.proofs.axis.Axis.indices_in.Goals.{After-count_below-2, else-low-high-via-then-low-high+else-first-end, else-low-high-via-else-low-high}

module _ (c : After-count_below-2) where
  width_fits : FitsSigned w128 c.args.self.now.width
  width_fits = search rules

  counts : AreCounted c.args.self.now c.args.low c.args.high c.count_below.result c.count_below-2.result
  counts =
      let fits : FitsSigned w128 c.saturating_add.result = search rules in
      counted c.args.self.now c.args.low c.args.high c.saturating_add.result c.count_below.result c.count_below-2.result c.requires c.ranges.high (rw (to_z-of_z w128 c.args.high c.ranges.high) at c.saturating_add.ensures)
      (rw (to_z-of_z w128 c.args.low c.ranges.low) at c.count_below.ensures.below) (rw (to_z-of_z w128 c.saturating_add.result fits) at c.count_below-2.ensures.below) c.count_below-2.ensures.limit

pub overflow_add-end : goal.overflow_add-end
overflow_add-end c =
    omega (arith, ints, c.requires.low_bound, c.requires.high_bound, c.count_below-2.ensures.limit, c.outside-outside.ensures.below, width_below c.args.self.now c.requires)

pub returns-then-first-end : goal.returns-then-first-end
returns-then-first-end c =
    let k = (goal.at.returns-then-first-end c).After-count_below-2 in
    let each = each_index c.args.overlap _ _ _ _ _ (counts k) in
    let ordered : c.args.low ≤ℤ c.args.high = omega (arith, ints, c.if-low-high.true) in
    let more : first c.args.overlap _ _ _ _ _ (counts k) < end c.args.overlap _ _ _ _ _ (counts k) = rw (c.outside-outside.ensures.outside, to_z-of_z w128 c.args.self.now.width (width_fits k)) at c.if-first-end.true in
    let found = some_indices c.args.overlap _ _ _ _ _ (counts k) ordered more in
    rw (c.outside-outside.ensures.outside, to_z-of_z w128 c.args.self.now.width (width_fits k))
    (record {
      some = (λ some. let below : first c.args.overlap _ _ _ _ _ (counts k) < c.args.self.now.count = omega (arith, found.ordered, found.below) in (_, below, (each _ below).0 (ordered, omega arith, more)), λ has. refl);
      indices = found;
    })

pub returns-else-low-high-clause-some : goal.returns-else-low-high-clause-some
returns-else-low-high-clause-some c = (
  λ some. absurd (false≢true some),
  λ has.
      let k = (goal.at.returns-else-low-high-clause-some c).After-count_below-2 in
      let indices = (each_index c.args.overlap _ _ _ _ _ (counts k) has.0 has.1).1 has.2 in
      absurd
      (elim c.else-low-high.branch [
        | else-low-high-via-then-low-high+else-first-end w ↦
            let none = rw (c.outside-outside.ensures.outside, to_z-of_z w128 c.args.self.now.width (width_fits k)) at w.if-first-end.false in omega (arith, none, indices.1, indices.2)
        | else-low-high-via-else-low-high w ↦ omega (arith, ints, w.if-low-high.false, indices.0)
      ]),
)
