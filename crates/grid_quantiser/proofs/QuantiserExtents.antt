-- The extents that a quantiser finds.
use Rattle.std.proofs.Common.{◌≡◌, ℕ, ◌<◌, refl, ap, sym, ◌∙◌, ℤ, None, Some}
use Rattle.std.proofs.lemmas.Bool.{false≢true}
use Rattle.grid_quantiser.specs.declared.axis.Axis.{Axis}
use Rattle.grid_quantiser.specs.Axes.{end_of}
use Rattle.grid_quantiser.specs.Cells.{index_of}
use Rattle.grid_quantiser.specs.Extents.{IsOnAxis, IsExtentOf}
use Rattle.grid_quantiser.specs.inside.AxisQuantisers.{axis_between, HasEnds}

-- ---- the extent between two numbers

module _ (a : Axis) (low high : ℤ) where
  pub missing : (IsOnAxis a low → IsOnAxis a high → ⊥) → IsExtentOf a low high None
  missing outside = record { inside = (λ h. absurd (false≢true h), λ on. absurd (outside on.0 on.1)); indices = tt; on_axis = tt }

  pub found : (first last : ℕ) → IsOnAxis a low × IsOnAxis a high → (first ≡ index_of a low) × (first < a.count) → (last ≡ index_of a high) × (last < a.count) → IsExtentOf a low high (Some (record { first = first; last = last }))
  found first last on is_first is_last = record { inside = (λ h. on, λ on. refl); indices = (is_first.0, is_last.0); on_axis = (is_first.1, is_last.1) }

-- ---- the ends of its axis

module _ (a : Axis) (lo end : ℤ) (width : ℕ) (view : axis_between lo end width ≡ a) where
  pub start_is : lo ≡ a.lo
  start_is = ap (λ (b : Axis). b.lo) view

  pub end_is : HasEnds lo end width → end ≡ end_of a
  end_is kept = sym kept.whole ∙ ap end_of view
