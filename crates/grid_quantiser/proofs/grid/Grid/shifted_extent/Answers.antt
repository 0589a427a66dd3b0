use Rattle.std.proofs.Common.{◌≡◌, ℤ, Some, subst, ap, sym, arith, inl, inr}
use Rattle.grid_quantiser.specs.declared.axis.Axis.{Axis}
use Rattle.grid_quantiser.specs.Axes.{axis_at, IsAxis}
use Rattle.grid_quantiser.specs.Extents.{IsExtentOf, IsExtentBefore}
use Rattle.grid_quantiser.proofs.ExtendedAxes.{still_missing, in_order, leaves, arrives}
use Rattle.grid_quantiser.proofs.grid.Grid.shifted_extent.Goals as goal
use Rattle.grid_quantiser.proofs.grid.Grid.shifted_extent.Goals.{In_ok-extent, then-first-count-via-then-first-count, then-first-count-via-else-first-count+then-count-last}

pub returns-in_err-extent : goal.returns-in_err-extent
returns-in_err-extent c = λ low high order is.
    let axis : Axis = axis_at c.args.self.now c.args.axis in
    subst (IsExtentOf axis low high) (sym c.from_residual.ensures)
    (still_missing axis (rw c.axis.ensures.same at c.axis.ensures.axis) c.args.indices c.requires.indices low high order (subst (IsExtentBefore axis c.args.indices low high) c.in_err-extent.was is))

-- an extent that is there
module _ (c : In_ok-extent) where
  abbrev axis : Axis
  axis = axis_at c.args.self.now c.args.axis

  is_axis : IsAxis axis
  is_axis = rw c.axis.ensures.same at c.axis.ensures.axis

  count_is : c.axis.result.now.count ≡ axis.count
  count_is = ap (λ (a : Axis). a.count) c.axis.ensures.same

  there : (low high : ℤ) → IsExtentBefore axis c.args.indices low high c.args.extent → IsExtentBefore axis c.args.indices low high (Some c.in_ok-extent.extent)
  there low high is = subst (IsExtentBefore axis c.args.indices low high) c.in_ok-extent.was is

  given : IsExtentBefore axis c.args.indices c.requires.extent.0 c.requires.extent.1 (Some c.in_ok-extent.extent)
  given = there _ _ c.requires.extent.3

pub returns-then-first-count : goal.returns-then-first-count
returns-then-first-count c = λ low high order is.
    let k = (goal.at.returns-then-first-count c).In_ok-extent in
    leaves (axis k) (is_axis k) c.args.indices c.requires.indices low high order _ (there k low high is)
    (elim c.then-first-count.branch [
      | then-first-count-via-then-first-count w ↦ inl (omega (arith, w.if-first-count.true, count_is k))
      | then-first-count-via-else-first-count+then-count-last w ↦ inr (omega (arith, w.if-count-last.true, count_is k))
    ])

pub overflow_sub-result-2 : goal.overflow_sub-result-2
overflow_sub-result-2 c =
    let k = (goal.at.overflow_sub-result-2 c).In_ok-extent in
    omega (arith, in_order (axis k) (is_axis k) c.args.indices c.requires.indices c.requires.extent.0 c.requires.extent.1 c.requires.extent.2 _ (given k))

pub returns : goal.returns
returns c = λ low high order is.
    let k = (goal.at.returns c).In_ok-extent in
    let count = count_is k in
    arrives (axis k) (is_axis k) c.args.indices c.requires.indices low high order _ (there k low high is) _ (omega arith) (omega arith) (omega arith) (omega arith)
