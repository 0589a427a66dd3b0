-- The extents of a pair, and the box that they make.
use Rattle.std.proofs.Common.{ℕ, ◌+◌, ◌<◌, List, Option, None, length, get_or, subst, arith}
use Rattle.std.proofs.lemmas.List.{length-map, take_all}
use Rattle.grid_quantiser.specs.declared.axis.Axis.{Axis}
use Rattle.grid_quantiser.specs.declared.boxes.CellBox.{CellBox}
use Rattle.grid_quantiser.specs.declared.extents.Extent.{Extent}
use Rattle.grid_quantiser.specs.Axes.{no_axis}
use Rattle.grid_quantiser.specs.Extents.{AreExtentsOf}
use Rattle.grid_quantiser.specs.ExtentBoxes.{with_extent, IsBoxMeeting}
use Rattle.plant_record.specs.Description.{Description, axis_of, axes_of}
use Rattle.plant_record.specs.Soundness.{IsSound}
use Rattle.successor_box.specs.SuccessorBoxes.{IsBoxOf, low_corner, high_corner}
use Rattle.successor_box.specs.PairExtents.{IsExtentAt, IsBoxAlong}
use Rattle.successor_box.proofs.Below.{boxes_grow_by_extents}
use Rattle.successor_box.proofs.Enabled.{corners_ordered}

-- the extents of a pair along all axes are those of its box
pub extents_of_box : (p : Description) (c u : ℕ) (extents : List (Option Extent)) → IsSound p → ((i : ℕ) → i < length p.equations → IsExtentAt p c u i (get_or extents i None)) → AreExtentsOf (axes_of p) (low_corner p c u) (high_corner p c u) extents
extents_of_box p c u extents sound each = record {
  ordered = (corners_ordered p c u sound).0;
  each = λ i lt. each i (omega (arith, lt, length-map p.states axis_of, sound.one_each));
}

pub box_more : (p : Description) (k c u : ℕ) (found : Option CellBox) (extent : Option Extent) → IsSound p → k < length p.equations →
    IsBoxAlong p k c u found → IsExtentAt p c u k extent → IsBoxAlong p (k + 1) c u (with_extent (get_or (axes_of p) k no_axis) found extent)
box_more p k c u found extent sound lt box is =
    boxes_grow_by_extents.more (axes_of p) (low_corner p c u) (high_corner p c u) k found extent sound.axes (corners_ordered p c u sound).0 (omega (arith, lt, length-map p.states axis_of, sound.one_each)) box is

pub box_on_all : (p : Description) (c u : ℕ) (found : Option CellBox) → IsSound p → IsBoxAlong p (length p.equations) c u found → IsBoxOf p c u found
box_on_all p c u found sound box =
    let whole = subst (λ (axes : List Axis). IsBoxMeeting axes (low_corner p c u) (high_corner p c u) found) (take_all (length p.equations) (axes_of p) (omega (arith, length-map p.states axis_of, sound.one_each))) box in
    record { inside = whole.inside; corners = whole.corners }
