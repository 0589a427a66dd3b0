use Rattle.std.proofs.Common.{◌≡◌, ◌<◌, ◌^◌, ℕ, List, [], ◌∷◌, ◌++◌, ◌∙◌, All, length, get_or, ap, ap₂, sym, subst, arith}
use Rattle.std.proofs.lemmas.List.FromFn.{map-range_with_len_more, length-map-range_with_len, get_or-map-range_with_len}
use Rattle.plant_record.specs.Description.{Description}
use Rattle.plant_record.proofs.lemmas.SoundPlants.{sound as sound_plant}
use Rattle.successor_box.specs.PairExtents.{index_in}
use Rattle.pair_boxes.specs.declared.digits.Digit.{Digit}
use Rattle.pair_boxes.specs.inside.Digits.{slot_at}
use Rattle.pair_boxes.proofs.EquationDigits.{variables, slot_below}
use Rattle.pair_boxes.proofs.PackedDigits.{slot_is}
use Rattle.pair_boxes.proofs.extent_table.build_inputs.Goals as goal

-- what an input brings
abbrev brought : Description → List Digit → ℕ → ℕ
brought p digits u = slot_at digits (index_in p 0 u)

pub slot_of-requires-clause-variables : goal.slot_of-requires-clause-variables
slot_of-requires-clause-variables c =
    let plant = c.args.of.now.sampled.within.plant in
    let each = variables c.args.of.now.sampled.plant.now c.args.of.now.state c.args.digits.now.each.items c.requires.each in
    subst (All (λ (d : Digit). d.variable < 9)) (sym c.deref.ensures.value) (λ k d lt. omega (arith, each k d lt, plant.states_bound, plant.inputs_bound))

pub slot_of-requires-clause-fits : goal.slot_of-requires-clause-fits
slot_of-requires-clause-fits c =
    let p = c.args.of.now.sampled.plant.now in
    let within = c.args.of.now.sampled.within in
    let digits : List Digit = c.args.digits.now.each.items in
    let indices : List ℕ = c.indices_of-indices.result in
    let u : ℕ = c.loop-input.input in
    let found = slot_is p 0 u indices digits (variables p c.args.of.now.state digits c.requires.each) c.indices_of-indices.ensures in
    let below = slot_below p within.plant (sound_plant p within.plant) c.args.of.now.state digits c.args.digits.now.slots c.requires 0 u in
    subst (λ (ds : List Digit). slot_at ds (λ (k : ℕ). get_or indices k 0) < 2 ^ 32) (sym c.deref.ensures.value) (omega (arith, found, below, c.requires.few, within.pairs))

pub loop-input-preserved : goal.loop-input-preserved
loop-input-preserved c =
    let p = c.args.of.now.sampled.plant.now in
    let digits : List Digit = c.args.digits.now.each.items in
    let indices : List ℕ = c.indices_of-indices.result in
    let u : ℕ = c.loop-input.input in
    let found : c.slot_of.result ≡ brought p digits u =
    c.slot_of.ensures
    ∙ ap (λ (ds : List Digit). slot_at ds (λ (k : ℕ). get_or indices k 0)) c.deref.ensures.value
    ∙ slot_is p 0 u indices digits (variables p c.args.of.now.state digits c.requires.each) c.indices_of-indices.ensures
    in
    c.in_ok-push.ensures.items ∙ ap₂ (λ (xs : List ℕ) (x : ℕ). xs ++ x ∷ []) c.loop-input.invariant found ∙ sym (map-range_with_len_more (brought p digits) 0 u u (omega arith))

-- all inputs are found
all_found : (c : goal.After-loop-input) → c.loop-input.input ≡ c.vectors-vectors.result
all_found c = omega arith

pub returns-clause-long : goal.returns-clause-long
returns-clause-long c =
    ap length c.loop-input.invariant ∙ length-map-range_with_len (brought c.args.of.now.sampled.plant.now c.args.digits.now.each.items) 0 c.loop-input.input ∙ all_found c ∙ c.vectors-vectors.ensures.count

pub returns-clause-each : goal.returns-clause-each
returns-clause-each c = λ u below.
    ap (λ (xs : List ℕ). get_or xs u 0) c.loop-input.invariant
    ∙ get_or-map-range_with_len (brought c.args.of.now.sampled.plant.now c.args.digits.now.each.items) 0 c.loop-input.input u u 0 (omega (arith, below, all_found c, c.vectors-vectors.ensures.count)) (omega arith)
