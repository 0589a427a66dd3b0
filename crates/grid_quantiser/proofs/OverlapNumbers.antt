-- The indices of one axis with an overlap in a range, by quotients.
use Rattle.std.proofs.Common.{◌≡◌, ℕ, ◌+◌, ◌-◌, ◌*◌, ◌/◌, ◌<◌, ◌≤◌, ◌↔◌, arith, sym, subst, FitsSigned, ℤ, pos, nat_abs, ◌+ℤ◌, ◌<ℤ◌, ◌≤ℤ◌}
use Rattle.std.specs.Int.{w128, saturate_signed}
use Rattle.std.proofs.Math.Nat.{mul_comm, add-mul, mul-le-mul_right, div-mul-le_self}
use Rattle.std.proofs.lemmas.Int.{ints, by_lt_z}
use Rattle.std.proofs.lemmas.Nat.{le-div}
use Rattle.grid_quantiser.specs.declared.axis.Axis.{Axis}
use Rattle.grid_quantiser.specs.declared.axis.Overlap.{Overlap}
use Rattle.grid_quantiser.specs.declared.axis.Overlap.TheVariants.{Partial, Whole}
use Rattle.grid_quantiser.specs.Axes.{IsAxis, end_of}
use Rattle.grid_quantiser.specs.Extents.{IsOnAxis}
use Rattle.grid_quantiser.specs.inside.Spots.{coordinate_of}
use Rattle.grid_quantiser.specs.inside.Overlaps.{outside_of, first_point, last_point, HasOverlapIn, AreIndicesIn}
use Rattle.grid_quantiser.proofs.AxisNumbers.{width_is, some_width, widths_is}

-- an index is before a quotient where all its numbers are
before_quotient : (m w p : ℕ) → 0 < w → (p < m / w → (p + 1) * w ≤ m) × ((p + 1) * w ≤ m → p < m / w)
before_quotient m w p some = (
  λ lt. let row : (p + 1) * w ≤ m / w * w = mul-le-mul_right w (omega (arith, lt)) in omega (arith, row, div-mul-le_self m w),
  λ le. omega (arith, le-div (p + 1) m w some le),
)

at_quotient : (m w p : ℕ) → 0 < w → (m / w ≤ p → m < (p + 1) * w) × (m < (p + 1) * w → m / w ≤ p)
at_quotient m w p some = (λ le. grind (arith, (before_quotient m w p some).1), λ lt. grind (arith, (before_quotient m w p some).0))

abbrev pub w : Axis → ℕ
w a = nat_abs a.width

module _ (a : Axis) (axis : IsAxis a) where
  pub some_outside : (overlap : Overlap) → outside_of overlap (w a) < w a
  some_outside Partial = omega (arith, some_width a axis)
  some_outside Whole = some_width a axis

  first_point_is : (overlap : Overlap) (p : ℕ) → coordinate_of (first_point overlap) a p ≡ a.lo +ℤ pos (p * w a + outside_of overlap (w a))
  first_point_is Partial p = omega (arith, ints, widths_is a axis p, mul_comm (w a) p, width_is a axis, some_width a axis)
  first_point_is Whole p = omega (arith, ints, widths_is a axis p, mul_comm (w a) p)

  last_point_is : (overlap : Overlap) (p : ℕ) → coordinate_of (last_point overlap) a p ≡ a.lo +ℤ pos (p * w a + (w a - 1 - outside_of overlap (w a)))
  last_point_is Partial p = omega (arith, ints, widths_is a axis p, mul_comm (w a) p)
  last_point_is Whole p = omega (arith, ints, widths_is a axis p, mul_comm (w a) p, width_is a axis, some_width a axis)

  number_on : (p k : ℕ) → p < a.count → k < w a → IsOnAxis a (a.lo +ℤ pos (p * w a + k))
  number_on p k below short =
      let row : (p + 1) * w a ≤ a.count * w a = mul-le-mul_right (w a) (omega (arith, below)) in
      (omega (arith, ints), omega (arith, ints, row, widths_is a axis a.count, mul_comm a.count (w a), add-mul p 1 (w a)))

-- how many numbers of an axis are less than one
abbrev pub IsCountBelow : Axis → ℤ → ℕ → Type 0
IsCountBelow a x n = (y : ℤ) → IsOnAxis a y → (x ≤ℤ y) ↔ ((a.lo +ℤ pos n) ≤ℤ y)

-- How many numbers of an axis come before a range, and how many up to its end.
pub record AreCounted (a : Axis) (low high : ℤ) (before up_to : ℕ) : Type 0 where
  pub axis : IsAxis a
  pub before_is : IsCountBelow a low before
  pub up_to_is : (y : ℤ) → IsOnAxis a y → (y ≤ℤ high) ↔ (y <ℤ (a.lo +ℤ pos up_to))
  pub limit : (a.lo +ℤ pos up_to) ≤ℤ end_of a

-- As many are at most a number as are less than the next, which may be past what 128 bits hold.
pub counted : (a : Axis) (low high next : ℤ) (before up_to : ℕ) → IsAxis a → FitsSigned w128 high → next ≡ saturate_signed w128 (high +ℤ pos 1) → IsCountBelow a low before → IsCountBelow a next up_to →
    (a.lo +ℤ pos up_to) ≤ℤ end_of a → AreCounted a low high before up_to
counted a low high next before up_to axis fits is below_low below_next limit = record {
  axis = axis;
  before_is = below_low;
  up_to_is = λ y on.
      let past : high <ℤ y → next ≤ℤ y = λ less. grind (arith, ints, is, fits, less) in
      let not_past : next ≤ℤ y → high <ℤ y = λ le. grind (arith, ints, is, fits, on, axis.high_bound, le) in
      let same = below_next y on in (
        λ h. by_lt_z y (a.lo +ℤ pos up_to) (λ less. less) (λ le. absurd (let far = not_past (same.1 le) in omega (arith, ints, h, far))),
        λ h. by_lt_z high y (λ less. absurd (let far = same.0 (past less) in omega (arith, ints, h, far))) (λ le. le),
      );
  limit = limit;
}

module _ (overlap : Overlap) (a : Axis) (low high : ℤ) (before up_to : ℕ) (counts : AreCounted a low high before up_to) where
  abbrev axis : IsAxis a
  axis = counts.axis

  abbrev o : ℕ
  o = outside_of overlap (w a)

  -- the first index with such an overlap, and the index after the last
  abbrev pub first : ℕ
  first = (before + (w a - 1 - o)) / w a

  abbrev pub end : ℕ
  end = (up_to + o) / w a

  pub each_index : (p : ℕ) → p < a.count → ((low ≤ℤ high) × (first ≤ p) × (p < end)) ↔ HasOverlapIn overlap a low high p
  each_index p below =
      let few = some_outside a axis overlap in
      let from = counts.before_is (coordinate_of (first_point overlap) a p) (subst (IsOnAxis a) (sym (first_point_is a axis overlap p)) (number_on a axis p o below few)) in
      let to = counts.up_to_is (coordinate_of (last_point overlap) a p) (subst (IsOnAxis a) (sym (last_point_is a axis overlap p)) (number_on a axis p (w a - 1 - o) below (omega (arith, few)))) in
      let firsts = at_quotient (before + (w a - 1 - o)) (w a) p (some_width a axis) in
      let ends = before_quotient (up_to + o) (w a) p (some_width a axis) in
      let row = add-mul p 1 (w a) in (
        λ (h : (low ≤ℤ high) × (first ≤ p) × (p < end)). (
          h.0,
          from.1 (omega (arith, ints, firsts.0 h.1, few, row, first_point_is a axis overlap p)),
          to.1 (omega (arith, ints, ends.0 h.2, few, row, last_point_is a axis overlap p)),
        ),
        λ (h : HasOverlapIn overlap a low high p). (
          h.0,
          firsts.1 (omega (arith, ints, from.0 h.1, few, row, first_point_is a axis overlap p)),
          ends.1 (omega (arith, ints, to.0 h.2, few, row, last_point_is a axis overlap p)),
        ),
      )

  end_limit : end ≤ a.count
  end_limit =
      grind (arith, ints, counts.limit, some_outside a axis overlap, (before_quotient (up_to + o) (w a) a.count (some_width a axis)).0, widths_is a axis a.count, mul_comm a.count (w a), add-mul a.count 1 (w a))

  pub some_indices : low ≤ℤ high → first < end → AreIndicesIn overlap a low high first (end - 1)
  some_indices ordered more = record {
    ordered = omega (arith, more);
    below = omega (arith, more, end_limit);
    exactly = λ p below.
        let each = each_index p below in (
          λ (between : (first ≤ p) × (p ≤ end - 1)). each.0 (ordered, between.0, omega (arith, between.1, more)),
          λ (has : HasOverlapIn overlap a low high p). let indices = each.1 has in (indices.1, omega (arith, indices.2)),
        );
  }
