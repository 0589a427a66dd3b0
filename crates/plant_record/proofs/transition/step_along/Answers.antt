use Rattle.std.proofs.Common.{◌≡◌, ℕ, ◌∙◌, ap, sym, length, take, arith}
use Rattle.std.specs.Prelude.{pos}
use Rattle.std.proofs.lemmas.Option.{get_or_from_slice_get}
use Rattle.fixed_expr.specs.Expression.{NumExpr, expression_of}
use Rattle.plant_record.specs.Description.{names_of}
use Rattle.plant_record.specs.Steps.{equation_at, values_at}
use Rattle.plant_record.proofs.lemmas.SoundPlants.{all_formed}
use Rattle.plant_record.proofs.lemmas.VariableValues.{names_count, values_count}
use Rattle.plant_record.proofs.transition.step_along.Goals as goal

pub eval-requires : goal.eval-requires
eval-requires c =
    let p = c.args.p.now in
    let plant = c.variables.ensures.limits.plant in
    let values : take c.variables.result c.values_at-values.result ≡ values_at p c.args.x.now c.args.input c.args.noise.now =
    ap (λ (n : ℕ). take n c.values_at-values.result) c.variables.ensures.count ∙ c.values_at-values.ensures
    in
    let count : length (take c.variables.result c.values_at-values.result) ≡ length (names_of p) =
    ap length values ∙ values_count p c.args.x.now c.args.noise.now c.args.input (omega (arith, plant.states_bound)) (omega (arith, plant.noises_bound)) ∙ sym (names_count p)
    in
    let is : equation_at p c.args.state ≡ expression_of c.equation.result.now = get_or_from_slice_get p.equations c.args.state (expression_of c.equation.result.now) (NumExpr (pos 0)) c.equation.ensures in
    rw (count, ← is) (all_formed (length (names_of p)) p.equations plant.equations c.args.state (NumExpr (pos 0)) c.requires.state)

pub returns : goal.returns
returns c =
    let p = c.args.p.now in
    let values : take c.variables.result c.values_at-values.result ≡ values_at p c.args.x.now c.args.input c.args.noise.now =
    ap (λ (n : ℕ). take n c.values_at-values.result) c.variables.ensures.count ∙ c.values_at-values.ensures
    in
    let is : equation_at p c.args.state ≡ expression_of c.equation.result.now = get_or_from_slice_get p.equations c.args.state (expression_of c.equation.result.now) (NumExpr (pos 0)) c.equation.ensures in
    rw (is, ← values) c.eval.ensures
