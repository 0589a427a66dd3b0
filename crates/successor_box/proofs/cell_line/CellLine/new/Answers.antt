use Rattle.std.proofs.Common.{◌∙◌, ℕ, ◌-◌, ◌<◌, refl, w64, rules, arith}
use Rattle.std.specs.Prelude.{ℤ, min, FitsSigned}
use Rattle.std.proofs.Math.Nat.{min-le_right}
use Rattle.std.proofs.lemmas.Int.{to_z-of_z}
use Rattle.plant_record.proofs.lemmas.SoundPlants.{sound as sound_plant}
use Rattle.successor_box.proofs.LineValues.{indices_there, middle_there, index_is_small, centres_of_new}
use Rattle.successor_box.proofs.cell_line.CellLine.new.Goals as goal

pub central_value-requires-clause-pair : goal.central_value-requires-clause-pair
central_value-requires-clause-pair c =
    let there = c.requires.within 0 (omega (arith, c.requires.some)) in
    (there.0, c.requires.input.0, indices_there c.args.p.now c.args.indices.now c.args.along 0 there.0 there.1 c.requires.input.0 c.requires.input.1 c.loop-k.k (λ same. refl))

pub middles-requires-clause-fits : goal.middles-requires-clause-fits
middles-requires-clause-fits c = λ places below.
    let p = c.args.p.now in
    let limits = c.variables-k-end.ensures.limits in
    let first : ℤ = c.first_middle-first.result.0 in
    let width : ℤ = c.first_middle-first.result.1 in
    let first_fits : FitsSigned w64 first = search rules in
    let width_fits : FitsSigned w64 width = search rules in
    let there = c.requires.within places below in
    let m = middle_there p c.args.indices.now c.args.along places there.0 there.1 (sound_plant p limits.plant) first width c.requires.along c.first_middle-first.ensures.middle c.first_middle-first.ensures.width in
    let small = index_is_small p c.args.indices.now c.args.along places there.0 there.1 c.requires.along in
    rw (to_z-of_z w64 first first_fits, to_z-of_z w64 width width_fits)
    (record { within = omega (arith, small, there.1.cell, limits.cells); way = m.way; middle = m.fits })

pub returns-clause-cells : goal.returns-clause-cells
returns-clause-cells c = λ cell are.
    let p = c.args.p.now in
    let plant = c.variables-k-end.ensures.limits.plant in
    let sound = sound_plant p plant in
    let first : ℤ = c.first_middle-first.result.0 in
    let width : ℤ = c.first_middle-first.result.1 in
    let first_fits : FitsSigned w64 first = search rules in
    let width_fits : FitsSigned w64 width = search rules in
    let found = rw (to_z-of_z w64 first first_fits, to_z-of_z w64 width width_fits) at c.middles.ensures in
    centres_of_new p c.args.indices.now c.args.along c.args.cells (record { values = c.loop-k.values; along = c.args.along; column = c.middles.result; input = c.input_number.result }) cell sound plant.states_bound c.requires.along
    (record {
      own = refl;
      long = c.loop-k.invariant.long;
      inputs = c.input_number.ensures;
      each = λ k within. c.loop-k.invariant.each k (omega (arith, within, c.loop-k-test.false, c.variables-k-end.ensures.count));
      column = λ lane below.
          let places : ℕ = min lane (c.args.cells - 1) in
          let within : places < c.args.cells = omega (arith, min-le_right lane (c.args.cells - 1), c.requires.some) in
          let there = c.requires.within places within in
          found lane below ∙ (middle_there p c.args.indices.now c.args.along places there.0 there.1 sound first width c.requires.along c.first_middle-first.ensures.middle c.first_middle-first.ensures.width).is;
    })
    are
