use Rattle.std.proofs.Common.{◌∙◌, ℕ, map, get_or, w64, rules, arith}
use Rattle.std.specs.Prelude.{ℤ, FitsSigned}
use Rattle.std.specs.Int.{w128}
use Rattle.std.proofs.lemmas.Int.{to_z-of_z}
use Rattle.grid_quantiser.specs.Axes.{no_axis}
use Rattle.grid_quantiser.specs.Cells.{centre_of}
use Rattle.plant_record.specs.Description.{axes_of}
use Rattle.plant_record.proofs.lemmas.SoundPlants.{sound as sound_plant}
use Rattle.plant_record.proofs.lemmas.VariableValues.{input_value, noise_value}
use Rattle.successor_box.specs.SuccessorBoxes.{noise_centre}
use Rattle.successor_box.proofs.Centres.{centre_enough}
use Rattle.successor_box.proofs.InputNumbers.{index_below}
use Rattle.successor_box.proofs.LineValues.{index_within, state_value, index_of_value}
use Rattle.successor_box.proofs.Middles.{IsMiddle, axis_at, middle_from}
use Rattle.successor_box.proofs.central_value.central_value.Goals as goal
use Rattle.successor_box.proofs.central_value.central_value.Goals.{After-first_middle-first}
use Rattle.base.proofs.Integers.{literal_fits}

-- the middle of a state's index
found : (c : After-first_middle-first) → IsMiddle (get_or (axes_of c.args.p.now) c.in-State.i no_axis) c.first_middle-first.result.0 c.first_middle-first.result.1 (get_or c.args.indices.now c.args.k 0)
found c =
    let p = c.args.p.now in
    let i : ℕ = c.in-State.i in
    let at = c.in-State.ensures in
    let sound = sound_plant p c.requires.plant.plant in
    let some = c.requires.pair in
    middle_from (get_or (axes_of p) i no_axis) (get_or c.args.indices.now c.args.k 0) c.first_middle-first.result.0 c.first_middle-first.result.1 (axis_at p sound i at.1) (index_within p some.0 some.1 c.args.indices.now c.args.k i some.2 sound at.0 at.1) c.first_middle-first.ensures.middle c.first_middle-first.ensures.width

pub middle-requires-clause-way : goal.middle-requires-clause-way
middle-requires-clause-way c =
    let width : ℤ = c.first_middle-first.result.1 in
    let width_fits : FitsSigned w64 width = search rules in
    rw (to_z-of_z w64 width width_fits) (found (goal.at.middle-requires-clause-way c).After-first_middle-first).way

pub middle-requires-clause-fits : goal.middle-requires-clause-fits
middle-requires-clause-fits c =
    let first : ℤ = c.first_middle-first.result.0 in
    let width : ℤ = c.first_middle-first.result.1 in
    let first_fits : FitsSigned w64 first = search rules in
    let width_fits : FitsSigned w64 width = search rules in
    rw (to_z-of_z w64 first first_fits, to_z-of_z w64 width width_fits) (found (goal.at.middle-requires-clause-fits c).After-first_middle-first).fits

pub returns-in-State : goal.returns-in-State
returns-in-State c = λ d u has.
    let p = c.args.p.now in
    let at = c.in-State.ensures in
    let first : ℤ = c.first_middle-first.result.0 in
    let width : ℤ = c.first_middle-first.result.1 in
    let first_fits : FitsSigned w64 first = search rules in
    let width_fits : FitsSigned w64 width = search rules in
    let fits : FitsSigned w64 c.middle.result = search rules in
    to_z-of_z w64 c.middle.result fits ∙ (rw (to_z-of_z w64 first first_fits, to_z-of_z w64 width width_fits) at c.middle.ensures)
    ∙ (found (goal.at.returns-in-State c).After-first_middle-first).is ∙ state_value p d u c.args.indices.now c.args.k c.in-State.i has (sound_plant p c.requires.plant.plant) at.0 at.1

-- where the variable is an input variable
pub value_at-requires-clause-index : goal.value_at-requires-clause-index
value_at-requires-clause-index c =
    let p = c.args.p.now in
    let at = c.in-Input.ensures in
    let some = c.requires.pair in
    omega (arith, index_of_value p some.0 some.1 c.args.indices.now c.args.k c.in-Input.i some.2 at.0 at.1, index_below p.inputs c.in-Input.i some.1 at.1 some.2.input)

pub returns-in-Input : goal.returns-in-Input
returns-in-Input c = λ d u has.
    let p = c.args.p.now in
    let at = c.in-Input.ensures in
    let x : ℤ = c.value_at.result in
    let wide : FitsSigned w128 x = search rules in
    let narrow : FitsSigned w64 x = literal_fits _ c.value_at.ensures.literal in
    rw (to_z-of_z w128 x wide, to_z-of_z w64 x narrow)
    (c.value_at.ensures.vectors u has.input (index_of_value p d u c.args.indices.now c.args.k c.in-Input.i has at.0 at.1)
    ∙ input_value p (centre_of (axes_of p) d) (map noise_centre p.noises) u c.args.k c.in-Input.i (centre_enough p d) at.0 at.1)

pub overflow_cast-result-in-Noise : goal.overflow_cast-result-in-Noise
overflow_cast-result-in-Noise c =
    let wide : FitsSigned w128 c.noise_centre.result = search rules in
    rw (to_z-of_z w128 _ wide) (literal_fits _ c.noise_centre.ensures.short)

pub returns-in-Noise : goal.returns-in-Noise
returns-in-Noise c = λ d u has.
    let p = c.args.p.now in
    let at = c.in-Noise.ensures in
    let wide : FitsSigned w128 c.noise_centre.result = search rules in
    rw (to_z-of_z w128 _ wide, to_z-of_z w64 _ (literal_fits _ c.noise_centre.ensures.short))
    (c.noise_centre.ensures.centre ∙ noise_value p (centre_of (axes_of p) d) (map noise_centre p.noises) u c.args.k c.in-Noise.i (centre_enough p d) at.0 at.1)
