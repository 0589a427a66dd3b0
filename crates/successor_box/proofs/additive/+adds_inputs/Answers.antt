use Rattle.std.proofs.Common.{sym, ap, subst, inl, inr}
use Rattle.fixed_expr.specs.declared.expr.Expr.{Expr}
use Rattle.successor_box.specs.inside.Additive.{HasAdditiveInputs}
use Rattle.successor_box.proofs.AdditiveInputs.{without_inputs, without_states, of_sum, of_difference}
use Rattle.fixed_expr.specs.Expression.{expression_of}
use Rattle.successor_box.proofs.additive.+adds_inputs.Goals as goal
use Rattle.successor_box.proofs.additive.+adds_inputs.Goals.{then-not-names_input-via-then-not-names_input, then-not-names_input-via-else-not-names_input+then-not-names_state}

pub returns-then-not-names_input : goal.returns-then-not-names_input
returns-then-not-names_input t c = λ yes.
    elim c.then-not-names_input.branch [
      | then-not-names_input-via-then-not-names_input w ↦ without_inputs c.args.sampled.now.plant.now (expression_of c.args.e.now) (c.names_input.ensures w.if-not-names_input.true)
      | then-not-names_input-via-else-not-names_input+then-not-names_state w ↦ without_states c.args.sampled.now.plant.now (expression_of c.args.e.now) (w.names_state.ensures w.if-not-names_state.true)
    ]

pub returns-then-adds_inputs : goal.returns-then-adds_inputs
returns-then-adds_inputs t c = λ yes.
    let Adds = HasAdditiveInputs c.args.sampled.now.plant.now in
    let first : Adds (expression_of c.in-Add.a.value) = subst (λ (e : Expr). Adds (expression_of e)) c.deref.ensures (c.adds_inputs.ensures c.if-adds_inputs.true) in
    let second : Adds (expression_of c.in-Add.b.value) = subst (λ (e : Expr). Adds (expression_of e)) c.deref-then-adds_inputs.ensures (c.adds_inputs-then-adds_inputs.ensures yes) in
    elim c.in-Add.is [
      | inl sum ↦ subst Adds (sym (ap expression_of sum)) (of_sum c.args.sampled.now.plant.now (expression_of c.in-Add.a.value) (expression_of c.in-Add.b.value) first second)
      | inr difference ↦ subst Adds (sym (ap expression_of difference)) (of_difference c.args.sampled.now.plant.now (expression_of c.in-Add.a.value) (expression_of c.in-Add.b.value) first second)
    ]
