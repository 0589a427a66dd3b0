use Rattle.std.proofs.Common.{◌≡◌, ◌<◌, ℕ, ◌∙◌, get_or, rules, arith}
use Rattle.std.specs.Prelude.{ℤ, pos, FitsSigned}
use Rattle.std.specs.Int.{w128}
use Rattle.std.proofs.lemmas.Int.{to_z-of_z}
use Rattle.std.proofs.lemmas.List.{length-set}
use Rattle.interval_eval.specs.declared.interval.Interval.{Interval}
use Rattle.plant_record.specs.Steps.{equation_at}
use Rattle.plant_record.proofs.lemmas.SoundPlants.{sound as sound_plant}
use Rattle.plant_record.proofs.lemmas.ListElements.{index_more}
use Rattle.successor_box.specs.SuccessorBoxes.{growth_of}
use Rattle.successor_box.specs.inside.Area.{no_range}
use Rattle.successor_box.specs.inside.Lines.{AreValuesUnder}
use Rattle.successor_box.proofs.CellRanges.{equation_is, formed_at, value_in}
use Rattle.successor_box.proofs.LineValues.{stays_at}
use Rattle.successor_box.proofs.NextIntervals.{growth_is}
use Rattle.successor_box.proofs.sampled.Sampled.growth_intervals.Goals as goal

pub values_in_lanes-next-requires-clause-formed : goal.values_in_lanes-next-requires-clause-formed
values_in_lanes-next-requires-clause-formed c =
    let p = c.args.self.now.plant.now in
    formed_at p c.args.state c.equation.result.now _ (sound_plant p c.args.self.now.within.plant) c.requires.state c.equation.ensures c.requires.values.1.long

pub values_in_lanes-next-requires-clause-fits : goal.values_in_lanes-next-requires-clause-fits
values_in_lanes-next-requires-clause-fits c = λ lane lt.
    let p = c.args.self.now.plant.now in
    let some = c.requires.values in
    let below : lane < 32 = omega (arith, lt, c.requires.few) in
    rw (equation_is p c.args.state c.equation.result.now c.equation.ensures, some.1.each lane below)
    (stays_at p (some.0 lane) c.args.input (sound_plant p c.args.self.now.within.plant) c.args.self.now.fits (some.1.cells lane below) c.requires.input c.args.state c.requires.state)

pub growth-requires-clause-next : goal.growth-requires-clause-next
growth-requires-clause-next c =
    let p = c.args.self.now.plant.now in
    let lane : ℕ = c.loop-j.j in
    let below : lane < 32 = omega (arith, c.loop-j-test.true, c.requires.few) in
    let some = c.requires.values in
    let x : ℤ = get_or c.values_in_lanes-next.result lane (pos 0) in
    let fits : FitsSigned w128 x = search rules in
    (some.0 lane, (some.1.cells lane below, c.requires.input), rw (to_z-of_z w128 x fits) (c.values_in_lanes-next.ensures lane c.loop-j-test.true ∙ value_in p c.args.state c.equation.result.now some.0 c.args.input lane c.args.at.now c.equation.ensures some.1 below))

pub loop-j-preserved : goal.loop-j-preserved
loop-j-preserved c =
    let p = c.args.self.now.plant.now in
    let e = equation_at p c.args.state in
    let lane : ℕ = c.loop-j.j in
    let below : lane < 32 = omega (arith, c.loop-j-test.true, c.requires.few) in
    let growth_intervals = c.loop-j.growth_intervals in
    let ends : Interval = c.growth.result in
    let x : ℤ = get_or c.values_in_lanes-next.result lane (pos 0) in
    let fits : FitsSigned w128 x = search rules in
    let low = rw (to_z-of_z w128 x fits) at c.growth.ensures.low in
    let high = rw (to_z-of_z w128 x fits) at c.growth.ensures.high in
    record {
      long = length-set growth_intervals lane ends ∙ c.loop-j.invariant.long;
      each = index_more (λ (j : ℕ) (r : Interval). (cell : ℕ → ℕ) → AreValuesUnder p cell c.args.input c.args.at.now → r ≡ growth_of p (cell j) c.args.input e) no_range growth_intervals lane ends (omega arith) c.loop-j.invariant.each
          (λ cell are. growth_is p (cell lane) c.args.input e x ends (c.values_in_lanes-next.ensures lane c.loop-j-test.true ∙ value_in p c.args.state c.equation.result.now cell c.args.input lane c.args.at.now c.equation.ensures are below) low high);
    }
