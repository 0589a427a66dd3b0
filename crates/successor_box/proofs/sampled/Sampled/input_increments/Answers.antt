use Rattle.std.proofs.Common.{ℕ, get_or, subst, arith}
use Rattle.std.specs.Prelude.{pos}
use Rattle.fixed_expr.specs.Expression.{Expression}
use Rattle.plant_record.specs.Steps.{equation_at}
use Rattle.successor_box.specs.inside.Additive.{HasAdditiveInputs}
use Rattle.successor_box.proofs.AdditiveInputs.{increment_everywhere}
use Rattle.successor_box.proofs.CellRanges.{equation_is}
use Rattle.successor_box.proofs.sampled.Sampled.input_increments.Goals as goal

pub returns : goal.returns
returns c =
    let p = c.args.self.now.plant.now in
    let i : ℕ = c.args.state in
    let e : Expression = equation_at p i in
    let increments = c.loop-input.increments.items in
    let additive : HasAdditiveInputs p e = subst (HasAdditiveInputs p) (equation_is p i c.equation.result.now c.equation.ensures) (c.adds_inputs.ensures c.if-not-adds_inputs.false) in
    record {
      long = omega (arith, c.loop-input.invariant.long, c.loop-input-test.false, c.loop-input.auto.input-end, c.vectors-input-end.ensures.count);
      each = λ d u cell input. increment_everywhere p e d u (get_or increments u (pos 0)) additive (c.loop-input.invariant.each u (omega (arith, input, c.loop-input-test.false, c.vectors-input-end.ensures.count)));
    }
