use Rattle.fixed_expr.specs.Expression.{expression_of}
use Rattle.plant_writing.proofs.lemmas.WrittenLines.{appended, equation_parts}
use Rattle.plant_writing.proofs.plant_writer.push_equation.Goals as goal

pub returns : goal.returns
returns c =
    appended c.extend_from_slice-4.result _ _ _
    (rw (c.in_ok-push_expression.ensures, c.in_ok-extend_from_slice-3.ensures.items, c.in_ok-extend_from_slice-2.ensures.items, c.in_ok-extend_from_slice.ensures.items, equation_parts c.args.text.now.items c.args.names.now c.args.state.now (expression_of c.args.equation.now))
    at c.extend_from_slice-4.ensures.items)
