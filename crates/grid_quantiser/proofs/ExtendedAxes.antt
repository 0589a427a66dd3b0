-- Indices on an axis that is extended by its own length below, and extents that are shifted from there.
use Rattle.std.proofs.Common.{◌≡◌, ◌⊎◌, ℕ, ◌+◌, ◌-◌, ◌*◌, ◌/◌, ◌^◌, ◌<◌, ◌≤◌, arith, refl, ap, ap₂, sym, w64, to_z, of_z, ◌∙◌, ℤ, pos, nat_abs, ◌+ℤ◌, ◌-ℤ◌, ◌*ℤ◌, ◌<ℤ◌, ◌≤ℤ◌, None, Some, inl, inr}
use Rattle.std.proofs.lemmas.Int.{ints}
use Rattle.std.specs.Int.{w128}
use Rattle.std.specs.Int.Signed.{pos-nat_abs, yes_non_neg}
use Rattle.std.proofs.Math.Nat.{div-eq_of_lt, mul_comm, mul-add, add-mul-div_left, mul-le-mul_left}
use Rattle.std.proofs.lemmas.Bool.{false≢true}
use Rattle.std.proofs.lemmas.Nat.{div-add-mod', mod_below}
use Rattle.grid_quantiser.specs.declared.axis.Axis.{Axis}
use Rattle.grid_quantiser.specs.declared.extents.Extent.{Extent}
use Rattle.grid_quantiser.specs.Axes.{IsAxis, end_of}
use Rattle.grid_quantiser.specs.Cells.{index_of}
use Rattle.grid_quantiser.specs.Extents.{IsOnAxis, IsExtentOf, extended_axis, IsExtentBefore}
use Rattle.grid_quantiser.specs.inside.AxisQuantisers.{axis_between, HasEnds}
use Rattle.grid_quantiser.proofs.QuantiserExtents.{missing, found}
use Rattle.grid_quantiser.proofs.AxisNumbers.{width_is, some_width, widths_is, offset_is, index_below}
use Rattle.base.proofs.Products.{quotients_in_order}

-- what 64 bits give back, and what 128
abbrev pub held : ℤ → ℤ
held x = to_z w64 (of_z w64 x)

abbrev pub wide : ℤ → ℤ
wide x = to_z w128 (of_z w128 x)

module _ (a : Axis) (axis : IsAxis a) where
  abbrev width : ℕ
  width = nat_abs a.width

  -- the distance from the low end of the extended axis
  abbrev distance : ℤ → ℕ
  distance x = nat_abs (x -ℤ (extended_axis a).lo)

  distance_is : (x : ℤ) → (extended_axis a).lo ≤ℤ x → pos (distance x) ≡ (x -ℤ a.lo) +ℤ pos (width * a.count)
  distance_is x low =
      let some : pos 0 ≤ℤ (x -ℤ (extended_axis a).lo) = omega (arith, ints, low) in
      omega (arith, ints, pos-nat_abs (x -ℤ (extended_axis a).lo) (yes_non_neg some), widths_is a axis a.count)

  pub same_end : end_of (extended_axis a) ≡ end_of a
  same_end = omega (arith, ints, widths_is a axis a.count, widths_is a axis (a.count + a.count), mul-add width a.count a.count)

  -- ---- its quantiser

  module _ (width_now : ℕ) (same_width : width_now ≡ nat_abs a.width) where
    pub between_ends : axis_between (extended_axis a).lo (end_of a) width_now ≡ extended_axis a
    between_ends =
        let apart : nat_abs (end_of a -ℤ (extended_axis a).lo) ≡ 0 + width * (a.count + a.count) = omega (arith, ints, widths_is a axis a.count, mul-add width a.count a.count) in
        let indices : nat_abs (end_of a -ℤ (extended_axis a).lo) / width_now ≡ a.count + a.count =
        ap₂ (λ (d n : ℕ). d / n) apart same_width ∙ omega (arith, add-mul-div_left 0 (a.count + a.count) (some_width a axis), div-eq_of_lt (some_width a axis)) in
        ap₂ (λ (w : ℤ) (n : ℕ). record { lo = (extended_axis a).lo; width = w; count = n }) (ap (λ (n : ℕ). pos n) same_width ∙ sym (width_is a axis)) indices

    pub has_ends : a.count ≤ 2 ^ 20 → HasEnds (extended_axis a).lo (end_of a) width_now
    has_ends few = record {
      some_width = omega (arith, same_width, some_width a axis);
      whole = ap end_of between_ends ∙ same_end;
      few = omega (arith, ap (λ (b : Axis). b.count) between_ends, few);
      ordered = omega (arith, ints, widths_is a axis a.count);
      low_bound = omega (arith, ints, axis.low_bound, axis.high_bound);
      high_bound = axis.high_bound;
    }

  -- its ends, as they are computed
  module _ (end : ℤ) (is : end ≡ end_of a) where
    pub low_held : held (wide (wide a.lo -ℤ wide (wide end -ℤ wide a.lo))) ≡ (extended_axis a).lo
    low_held = omega (arith, ints, is, axis.low_bound, axis.high_bound, widths_is a axis a.count)

    pub end_held : held (wide end) ≡ end_of a
    end_held = omega (arith, ints, is, axis.low_bound, axis.high_bound, widths_is a axis a.count)

  -- ---- a number so many indices before another

  module _ (d : ℕ) (few : d < a.count) where
    abbrev back : ℤ → ℤ
    back x = x -ℤ (a.width *ℤ pos d)

    back_on : (x : ℤ) → IsOnAxis a x → IsOnAxis (extended_axis a) (back x)
    back_on x is =
        let less : width * d ≤ width * a.count = mul-le-mul_left width (omega (arith, few)) in
        (omega (arith, ints, is.0, less, widths_is a axis d, widths_is a axis a.count), omega (arith, ints, is.1, same_end, widths_is a axis d))

    module _ (x : ℤ) (on : IsOnAxis (extended_axis a) (back x)) where
      abbrev index : ℕ
      index = index_of (extended_axis a) (back x)

      far : pos (distance (back x)) +ℤ pos (width * d) ≡ (x -ℤ a.lo) +ℤ pos (width * a.count)
      far = omega (arith, ints, distance_is (back x) on.0, widths_is a axis d)

      -- the distance between the numbers of its index
      parts : (n : ℕ) → width * (index + d + n) ≡ index * width + width * d + width * n
      parts n = omega (arith, mul-add width (index + d) n, mul-add width index d, mul_comm width index)

      inside : (width * (index + d) ≤ distance (back x) + width * d) × (distance (back x) + width * d < width * (index + d + 1))
      inside =
          let split = div-add-mod' (distance (back x)) width in
          let rest = mod_below (distance (back x)) width (some_width a axis) in
          (omega (arith, split, parts 0), omega (arith, split, rest, parts 1))

      from_low : a.count ≤ index + d → a.lo ≤ℤ x
      from_low le = omega (arith, ints, far, inside.0, mul-le-mul_left width le)

      below_low : index + d < a.count → x <ℤ a.lo
      below_low lt =
          let row : width * (index + d + 1) ≤ width * a.count = mul-le-mul_left width (omega (arith, lt)) in
          omega (arith, ints, far, inside.1, row)

      before_end : index + d < 2 * a.count → x <ℤ end_of a
      before_end lt =
          let row : width * (index + d + 1) ≤ width * (a.count + a.count) = mul-le-mul_left width (omega (arith, lt)) in
          omega (arith, ints, far, inside.1, row, mul-add width a.count a.count, widths_is a axis a.count)

      past_end : 2 * a.count ≤ index + d → end_of a ≤ℤ x
      past_end le =
          let row : width * (a.count + a.count) ≤ width * (index + d) = mul-le-mul_left width (omega (arith, le)) in
          omega (arith, ints, far, inside.0, row, mul-add width a.count a.count, widths_is a axis a.count)

      -- the index on the axis
      index_is : a.count ≤ index + d → index + d - a.count ≡ index_of a x
      index_is le =
          let some = some_width a axis in
          let y : ℕ = nat_abs (x -ℤ a.lo) in
          let same : y + width * a.count ≡ distance (back x) + width * d = omega (arith, ints, far, offset_is a x (from_low le)) in
          omega (arith, le, sym (add-mul-div_left y a.count some) ∙ ap (λ (n : ℕ). n / width) same ∙ add-mul-div_left (distance (back x)) d some)

    -- ---- an extent so many indices before another

    ordered_indices : (low high : ℤ) → low ≤ℤ high → IsOnAxis (extended_axis a) (back low) → IsOnAxis (extended_axis a) (back high) → index_of (extended_axis a) (back low) ≤ index_of (extended_axis a) (back high)
    ordered_indices low high order on_low on_high =
        quotients_in_order (distance (back low)) (distance (back high)) width (some_width a axis)
        (omega (arith, ints, order, distance_is (back low) on_low.0, distance_is (back high) on_high.0))

    module _ (low high : ℤ) (order : low ≤ℤ high) where
      -- none lies before one that is missing
      pub still_missing : IsExtentBefore a d low high None → IsExtentOf a low high None
      still_missing is = missing a low high (λ on_low on_high. false≢true (is.inside.1 (back_on low on_low, back_on high on_high)))

      module _ (s : Extent) (is : IsExtentBefore a d low high (Some s)) where
        both_on : IsOnAxis (extended_axis a) (back low) × IsOnAxis (extended_axis a) (back high)
        both_on = is.inside.0 refl

        pub in_order : s.first ≤ s.last
        in_order = omega (arith, ordered_indices low high order both_on.0 both_on.1, is.indices.0, is.indices.1)

        pub leaves : (s.first + d < a.count) ⊎ (2 * a.count ≤ s.last + d) → IsExtentOf a low high None
        leaves (inl under) = missing a low high (λ on_low on_high. let below = below_low low both_on.0 (omega (arith, under, is.indices.0)) in omega (arith, ints, on_low.0, below))
        leaves (inr over) = missing a low high (λ on_low on_high. let past = past_end high both_on.1 (omega (arith, over, is.indices.1)) in omega (arith, ints, on_high.1, past))

        pub arrives : (r : Extent) → a.count ≤ s.first + d → s.last + d < 2 * a.count → r.first ≡ s.first + d - a.count → r.last ≡ s.last + d - a.count → IsExtentOf a low high (Some r)
        arrives r from to first last =
            let low_from : a.count ≤ index_of (extended_axis a) (back low) + d = omega (arith, from, is.indices.0) in
            let high_from : a.count ≤ index_of (extended_axis a) (back high) + d = omega (arith, from, in_order, is.indices.1) in
            let low_to : index_of (extended_axis a) (back low) + d < 2 * a.count = omega (arith, to, in_order, is.indices.0) in
            let high_to : index_of (extended_axis a) (back high) + d < 2 * a.count = omega (arith, to, is.indices.1) in
            let on_low : IsOnAxis a low = (from_low low both_on.0 low_from, before_end low both_on.0 low_to) in
            let on_high : IsOnAxis a high = (from_low high both_on.1 high_from, before_end high both_on.1 high_to) in
            let first_is : r.first ≡ index_of a low = omega (arith, first, is.indices.0, index_is low both_on.0 low_from) in
            let last_is : r.last ≡ index_of a high = omega (arith, last, is.indices.1, index_is high both_on.1 high_from) in
            found a low high r.first r.last (on_low, on_high) (first_is, omega (arith, first_is, index_below a low axis on_low.0 on_low.1)) (last_is, omega (arith, last_is, index_below a high axis on_high.0 on_high.1))
