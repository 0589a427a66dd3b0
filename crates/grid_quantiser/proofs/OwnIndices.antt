-- The index of a cell along an axis, and the centre there, which depends on it alone.
use Rattle.std.proofs.Common.{◌≡◌, ℕ, ◌+◌, ◌/◌, ◌%◌, ◌<◌, arith, ap, ap₂, sym, subst, ◌∙◌, List, length, drop, get_or}
use Rattle.std.specs.List.{All}
use Rattle.std.proofs.lemmas.List.Elements.{All-get_or}
use Rattle.std.proofs.lemmas.Nat.{mod_below}
use Rattle.std.specs.Prelude.{pos}
use Rattle.mixed_radix.specs.Radix.{size, digits}
use Rattle.mixed_radix.proofs.Numbers.{length-digits, number-digits, digit_is}
use Rattle.grid_quantiser.specs.declared.axis.Axis.{Axis}
use Rattle.grid_quantiser.specs.Axes.{IsAxis, no_axis, counts_of, cells_of}
use Rattle.grid_quantiser.specs.Cells.{centre_of}
use Rattle.grid_quantiser.specs.Indices.{index_along, middle_of}
use Rattle.grid_quantiser.proofs.Counts.{length-counts_of, drop-counts_of, each_count, each_number}

-- the cells along the later axes are skipped
pub index_along_is : (axes : List Axis) (i c : ℕ) → index_along axes i c ≡ c / cells_of (drop (i + 1) axes) % (get_or axes i no_axis).count
index_along_is axes i c = ap₂ (λ (later : List ℕ) (n : ℕ). c / size later % n) (drop-counts_of (i + 1) axes) (each_count axes i)

pub index_along_below : (axes : List Axis) (i c : ℕ) → All IsAxis axes → i < length axes → index_along axes i c < (get_or axes i no_axis).count
index_along_below axes i c each within =
    let count : ℕ = (get_or axes i no_axis).count in
    subst (λ (n : ℕ). n < count) (sym (index_along_is axes i c)) (mod_below (c / cells_of (drop (i + 1) axes)) count (All-get_or IsAxis axes i no_axis within each).some_cell)

pub centre_index : (axes : List Axis) (c i : ℕ) → c < cells_of axes → i < length axes → get_or (centre_of axes c) i (pos 0) ≡ middle_of (get_or axes i no_axis) (index_along axes i c)
centre_index axes c i below within =
    let counts : List ℕ = counts_of axes in
    each_number middle_of axes (digits counts c) i (pos 0) (omega (arith, length-digits counts c, length-counts_of axes)) within
    ∙ ap (middle_of (get_or axes i no_axis)) (sym (digit_is counts (digits counts c) c i (number-digits counts c below) (omega (arith, within, length-counts_of axes))))
