use Rattle.std.proofs.Common.{◌≡◌, ◌++◌, map, take}
use Rattle.fixed_expr.specs.Expression.{expression_of}
use Rattle.plant_writing.specs.CanonicalText.{equation_lines}
use Rattle.plant_writing.proofs.plant_writer.push_equations.Given as goal

abbrev pub invariant-loop-i : goal.invariant-loop-i
invariant-loop-i l = l.text.items ≡ l.fn.text.items ++ equation_lines l.names (take l.i l.states) (map expression_of (take l.i l.equations))
