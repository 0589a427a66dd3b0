use Rattle.std.proofs.Common.{◌≡◌, ◌∙◌, get_or, sym, ap, subst₂, rules}
use Rattle.std.specs.Prelude.{ℤ, pos, FitsSigned}
use Rattle.std.specs.Int.{w128}
use Rattle.std.proofs.lemmas.Int.{to_z-of_z}
use Rattle.interval_eval.specs.declared.interval.Interval.{Interval}
use Rattle.grid_quantiser.specs.Axes.{no_axis}
use Rattle.grid_quantiser.specs.Extents.{IsExtentOf}
use Rattle.plant_record.specs.Description.{axes_of}
use Rattle.successor_box.specs.SuccessorBoxes.{low_corner, high_corner}
use Rattle.successor_box.proofs.ExtentEnds.{low_is, high_is}
use Rattle.successor_box.proofs.sampled.Sampled.extent.Goals as goal

pub returns : goal.returns
returns c =
    let p = c.args.self.now.plant.now in
    let x : ℤ = c.next_interval-next_interval.result.lo in
    let y : ℤ = c.next_interval-next_interval.result.hi in
    let low_fits : FitsSigned w128 x = search rules in
    let high_fits : FitsSigned w128 y = search rules in
    let is = rw (c.grid.ensures, to_z-of_z w128 x low_fits, to_z-of_z w128 y high_fits) at c.extent.ensures in
    let low : x ≡ get_or (low_corner p c.args.c c.args.input) c.args.state (pos 0) = ap (λ (r : Interval). r.lo) c.next_interval-next_interval.ensures ∙ sym (low_is p c.args.c c.args.input c.args.state c.requires.state) in
    let high : y ≡ get_or (high_corner p c.args.c c.args.input) c.args.state (pos 0) = ap (λ (r : Interval). r.hi) c.next_interval-next_interval.ensures ∙ sym (high_is p c.args.c c.args.input c.args.state c.requires.state) in
    subst₂ (λ (low high : ℤ). IsExtentOf (get_or (axes_of p) c.args.state no_axis) low high c.extent.result) low high is
