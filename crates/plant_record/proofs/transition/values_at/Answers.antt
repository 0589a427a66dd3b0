use Rattle.std.proofs.Common.{arith, rules}
use Rattle.std.specs.Prelude.{pos, FitsSigned}
use Rattle.std.specs.Int.{w128}
use Rattle.std.proofs.lemmas.Int.{to_z-of_z}
use Rattle.plant_record.specs.Steps.{values_at}
use Rattle.plant_record.proofs.lemmas.ListElements.{fill_more, fill_all}
use Rattle.plant_record.proofs.lemmas.VariableValues.{values_count}
use Rattle.plant_record.proofs.transition.values_at.Goals as goal

pub loop-k-preserved : goal.loop-k-preserved
loop-k-preserved c =
    let p = c.args.p.now in
    let plant = c.variables-k-end.ensures.limits.plant in
    let count = values_count p c.args.x.now c.args.noise.now c.args.input (omega (arith, plant.states_bound)) (omega (arith, plant.noises_bound)) in
    let fits : FitsSigned w128 c.value_at.result = search rules in
    rw (to_z-of_z w128 c.value_at.result fits)
    (record {
      count = search rules;
      filled = fill_more c.loop-k.values (values_at p c.args.x.now c.args.input c.args.noise.now) c.loop-k.k c.value_at.result (pos 0) (omega arith) (omega arith) c.loop-k.invariant.filled c.value_at.ensures;
    })

pub returns : goal.returns
returns c =
    let p = c.args.p.now in
    let plant = c.variables-k-end.ensures.limits.plant in
    let count = values_count p c.args.x.now c.args.noise.now c.args.input (omega (arith, plant.states_bound)) (omega (arith, plant.noises_bound)) in
    fill_all c.loop-k.values (values_at p c.args.x.now c.args.input c.args.noise.now) c.loop-k.k _ (omega arith) count c.loop-k.invariant.filled
