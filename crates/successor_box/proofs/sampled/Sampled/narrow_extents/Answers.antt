use Rattle.std.proofs.Common.{◌≡◌, ◌<◌, ℕ, ◌∙◌, Option, None, length, get_or, w64, rules, arith}
use Rattle.std.specs.Prelude.{ℤ, pos, FitsSigned}
use Rattle.std.specs.Int.{w128}
use Rattle.std.proofs.lemmas.Int.{to_z-of_z}
use Rattle.std.proofs.lemmas.List.{length-set}
use Rattle.grid_quantiser.specs.declared.extents.Extent.{Extent}
use Rattle.plant_record.specs.Steps.{equation_at}
use Rattle.plant_record.proofs.lemmas.ListElements.{index_more}
use Rattle.successor_box.specs.SuccessorBoxes.{deviation_at}
use Rattle.successor_box.specs.PairExtents.{IsExtentBeforeAt}
use Rattle.successor_box.proofs.DeviationLanes.{deviation_is}
use Rattle.successor_box.proofs.ExtentEnds.{extent_of_growth, deviation_some}
use Rattle.successor_box.proofs.sampled.Sampled.narrow_extents.Goals as goal

pub extent_around-requires : goal.extent_around-requires
extent_around-requires c =
    let d : ℤ = c.of-deviation.result in
    let fits : FitsSigned w128 d = search rules in
    rw (to_z-of_z w128 d fits) (deviation_some c.args.self.now.plant.now c.args.input c.args.state d (deviation_is c.args.self.now.plant.now c.args.state c.requires.state c.args.self.now.slopes.now c.args.input d c.requires.input c.args.self.now.deviations c.of-deviation.ensures))

pub loop-j-preserved : goal.loop-j-preserved
loop-j-preserved c =
    let p = c.args.self.now.plant.now in
    let i : ℕ = c.args.state in
    let u : ℕ = c.args.input in
    let lane : ℕ = c.loop-j.j in
    let extents = c.loop-j.extents in
    let extent : Option Extent = c.extent_around.result in
    let within : lane < length extents = omega (arith, c.loop-j-test.true, c.loop-j.invariant.long) in
    let lane_below : lane < 32 = omega (arith, c.loop-j-test.true, c.requires.few) in
    let x : ℤ = get_or c.args.values.now lane (pos 0) in
    let y : ℤ = c.from.result in
    let d : ℤ = c.of-deviation.result in
    let narrow : FitsSigned w64 x = search rules in
    let y_fits : FitsSigned w128 y = search rules in
    let d_fits : FitsSigned w128 d = search rules in
    let same : y ≡ x = c.from.ensures ∙ to_z-of_z w64 x narrow in
    let by : d ≡ deviation_at p u (equation_at p i) = deviation_is p i c.requires.state c.args.self.now.slopes.now u d c.requires.input c.args.self.now.deviations c.of-deviation.ensures in
    let found = rw (c.extended_quantiser-quantiser.ensures, c.grid.ensures, to_z-of_z w128 y y_fits, to_z-of_z w128 d d_fits) at c.extent_around.ensures in
    record {
      long = length-set extents lane extent ∙ c.loop-j.invariant.long;
      each = λ cell values. index_more (λ (j : ℕ) (s : Option Extent). IsExtentBeforeAt p (cell j) u i 0 s) None extents lane extent within (c.loop-j.invariant.each cell values)
          (extent_of_growth p (cell lane) u i y d extent c.requires.state c.requires.version (same ∙ values lane lane_below) by found);
    }
