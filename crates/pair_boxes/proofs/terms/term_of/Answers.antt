use Rattle.std.proofs.Common.{ℕ, ◌∙◌, List, get_or, sym, ap, subst}
use Rattle.std.specs.Prelude.{ℤ, pos, ◌≤ℤ◌}
use Rattle.grid_quantiser.specs.declared.axis.Axis.{Axis}
use Rattle.grid_quantiser.specs.Axes.{no_axis}
use Rattle.grid_quantiser.specs.Extents.{IsExtentBefore}
use Rattle.plant_record.proofs.lemmas.SoundPlants.{sound as sound_plant}
use Rattle.plant_record.specs.Description.{axes_of}
use Rattle.successor_box.specs.SuccessorBoxes.{low_corner, high_corner}
use Rattle.successor_box.proofs.ExtentEnds.{ends_ordered}
use Rattle.pair_box.specs.Sums.{term}
use Rattle.pair_boxes.proofs.RelativeExtents.{shifted_range}
use Rattle.pair_boxes.proofs.BoxSums.{extent_term_fits}
use Rattle.pair_boxes.proofs.terms.term_of.Goals as goal

pub shifted_extent-requires-clause-extent : goal.shifted_extent-requires-clause-extent
shifted_extent-requires-clause-extent c =
    let p = c.args.of.now.sampled.plant.now in
    subst (λ (axes : List Axis). (l : ℤ) × (h : ℤ) × (l ≤ℤ h) × IsExtentBefore (get_or axes c.args.of.now.state no_axis) c.args.indices l h c.args.extent) (sym c.grid-grid.ensures)
    (shifted_range (get_or (axes_of p) c.args.of.now.state no_axis) c.args.indices c.args.extent c.requires.extent)

pub term-requires : goal.term-requires
term-requires c =
    let p = c.args.of.now.sampled.plant.now in
    let within = c.args.of.now.sampled.within in
    let shifted = rw c.grid-grid.ensures at c.shifted_extent.ensures in
    let range = shifted_range (get_or (axes_of p) c.args.of.now.state no_axis) c.args.indices c.args.extent c.requires.extent in
    extent_term_fits p within c.args.of.now.state c.args.of.now.equation c.args.of.now.stride c.shifted_extent.result range.0 range.1 c.args.of.now.stride_is range.2 (shifted range.0 range.1 range.2 range.3)

pub returns : goal.returns
returns c = λ cell u is.
    let p = c.args.of.now.sampled.plant.now in
    let i : ℕ = c.args.of.now.state in
    let shifted = rw c.grid-grid.ensures at c.shifted_extent.ensures in
    let order = ends_ordered p cell u i (sound_plant p c.args.of.now.sampled.within.plant) c.args.of.now.equation in
    (c.shifted_extent.result, shifted (get_or (low_corner p cell u) i (pos 0)) (get_or (high_corner p cell u) i (pos 0)) order is, c.term.ensures ∙ ap (λ (m : ℕ). term m c.shifted_extent.result) c.args.of.now.stride_is)
