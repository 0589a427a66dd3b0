-- The texts of expressions as they lie in memory. No public clause names this.
use Rattle.std.specs.Borrow.{Bor}
use Rattle.std.specs.Prelude.{ℕ, ℤ, List, ◌++◌, codes}
use Rattle.std.specs.List.{flat_map}
use Rattle.fixed_expr.specs.declared.expr.Expr.{Expr}
use Rattle.fixed_expr.specs.Expression.{expression_of}
use Rattle.plant_writing.specs.declared.expression_writer.Level.{Level}
use Rattle.plant_writing.specs.ExpressionText.{expression_text, point_text}
use Rattle.plant_writing.specs.inside.WriterLevels.{number_of}

-- the text of an expression at a position that needs a level
abbrev pub text_at : List (List ℕ) → Level → Expr → List ℕ
text_at names asked e = expression_text names (number_of asked) (expression_of e)

-- the texts of two expressions at their positions, with a text between
abbrev pub pair_text : List (List ℕ) → Level × Bor Expr → List ℕ → Level × Bor Expr → List ℕ
pair_text names left between right = text_at names left.0 left.1.now ++ between ++ text_at names right.0 right.1.now

-- the text of a minimum or a maximum, from its opening bracket on
abbrev pub call_text : List (List ℕ) → List ℕ → Expr → Expr → List ℕ
call_text names opening a b = opening ++ expression_text names 1 (expression_of a) ++ codes ", " ++ expression_text names 1 (expression_of b) ++ codes ")"

-- the text of a table of points
abbrev pub lut_text : List (List ℕ) → Expr → List (ℤ × ℤ) → List ℕ
lut_text names a points = codes "lut(" ++ expression_text names 1 (expression_of a) ++ flat_map point_text points ++ codes ")"
