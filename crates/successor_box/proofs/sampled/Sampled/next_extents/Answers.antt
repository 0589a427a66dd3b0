use Rattle.std.proofs.Common.{◌<◌, ℕ, ◌∙◌, Option, None, length, get_or, rules, arith}
use Rattle.std.specs.Prelude.{FitsSigned}
use Rattle.std.specs.Int.{w128}
use Rattle.std.proofs.lemmas.Int.{to_z-of_z}
use Rattle.std.proofs.lemmas.List.{length-set}
use Rattle.interval_eval.specs.declared.interval.Interval.{Interval}
use Rattle.grid_quantiser.specs.declared.extents.Extent.{Extent}
use Rattle.plant_record.proofs.lemmas.ListElements.{index_more}
use Rattle.successor_box.specs.PairExtents.{IsExtentBeforeAt}
use Rattle.successor_box.specs.inside.Area.{no_range}
use Rattle.successor_box.proofs.ExtentEnds.{extent_of_next}
use Rattle.successor_box.proofs.sampled.Sampled.next_extents.Goals as goal

pub loop-j-preserved : goal.loop-j-preserved
loop-j-preserved c =
    let p = c.args.self.now.plant.now in
    let i : ℕ = c.args.state in
    let lane : ℕ = c.loop-j.j in
    let extents = c.loop-j.extents in
    let extent : Option Extent = c.extent.result in
    let within : lane < length extents = omega (arith, c.loop-j-test.true, c.loop-j.invariant.long) in
    let next_interval : Interval = get_or c.next_intervals-next_intervals.result lane no_range in
    let low_fits : FitsSigned w128 next_interval.lo = search rules in
    let high_fits : FitsSigned w128 next_interval.hi = search rules in
    let found = rw (c.extended_quantiser-quantiser.ensures, c.grid.ensures, to_z-of_z w128 next_interval.lo low_fits, to_z-of_z w128 next_interval.hi high_fits) at c.extent.ensures in
    record {
      long = length-set extents lane extent ∙ c.loop-j.invariant.long;
      each = λ cell are. index_more (λ (j : ℕ) (s : Option Extent). IsExtentBeforeAt p (cell j) c.args.input i 0 s) None extents lane extent within (c.loop-j.invariant.each cell are)
          (extent_of_next p (cell lane) c.args.input i next_interval extent c.requires.state (c.next_intervals-next_intervals.ensures cell are lane c.loop-j-test.true) found);
    }
