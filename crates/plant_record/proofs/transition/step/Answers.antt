use Rattle.std.proofs.Common.{◌≡◌, ◌∙◌, ap, sym, length, take, arith}
use Rattle.plant_record.specs.Description.{names_of}
use Rattle.plant_record.specs.Steps.{values_at}
use Rattle.plant_record.proofs.lemmas.NextPoints.{formed_below, next_is}
use Rattle.plant_record.proofs.lemmas.SoundPlants.{all_formed}
use Rattle.plant_record.proofs.lemmas.VariableValues.{names_count, values_count}
use Rattle.plant_record.proofs.transition.step.Goals as goal

pub next_point-requires-clause-formed : goal.next_point-requires-clause-formed
next_point-requires-clause-formed c =
    let p = c.args.p.now in
    let plant = c.equations.ensures.limits.plant in
    let values : take c.variables.result c.values_at-values.result ≡ values_at p c.args.x.now c.args.input c.args.noise.now =
    ap (λ n. take n c.values_at-values.result) c.variables.ensures.count ∙ c.values_at-values.ensures
    in
    let count : length (take c.variables.result c.values_at-values.result) ≡ length (names_of p) =
    ap length values ∙ values_count p c.args.x.now c.args.noise.now c.args.input (omega (arith, plant.states_bound)) (omega (arith, plant.noises_bound)) ∙ sym (names_count p)
    in
    rw count (formed_below (length (names_of p)) c.equations.result.now p.equations c.equations.ensures.same (all_formed (length (names_of p)) p.equations plant.equations))

pub returns : goal.returns
returns c =
    let p = c.args.p.now in
    let values : take c.variables.result c.values_at-values.result ≡ values_at p c.args.x.now c.args.input c.args.noise.now =
    ap (λ n. take n c.values_at-values.result) c.variables.ensures.count ∙ c.values_at-values.ensures
    in
    rw (← c.equations.ensures.same, ← values) (next_is c.next_point.result (take c.variables.result c.values_at-values.result) c.equations.result.now c.next_point.ensures)
