-- Which variables stand in an expression.
use Rattle.std.specs.Prelude.{ℕ, Bool, false, ◌==◌, ◌||◌}
use Rattle.fixed_expr.specs.Expression.{Expression, NumExpr, VarExpr, NegExpr, AddExpr, SubExpr, MulExpr, DivExpr, MinExpr, MaxExpr, AbsExpr, LutExpr}

-- whether a variable stands in an expression
abbrev pub mentions : Expression → ℕ → Bool
mentions (NumExpr k) i = false
mentions (VarExpr j) i = j == i
mentions (NegExpr a) i = mentions a i
mentions (AddExpr a b) i = mentions a i || mentions b i
mentions (SubExpr a b) i = mentions a i || mentions b i
mentions (MulExpr a b) i = mentions a i || mentions b i
mentions (DivExpr a k) i = mentions a i
mentions (MinExpr a b) i = mentions a i || mentions b i
mentions (MaxExpr a b) i = mentions a i || mentions b i
mentions (AbsExpr a) i = mentions a i
mentions (LutExpr a points) i = mentions a i
