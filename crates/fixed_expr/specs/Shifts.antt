-- Expressions that shift with one of their variables.
use Rattle.std.specs.Prelude.{ℕ, Bool, false, ◌==◌, ◌||◌, ◌&&◌, not}
use Rattle.fixed_expr.specs.Expression.{Expression, NumExpr, VarExpr, NegExpr, AddExpr, SubExpr, MulExpr, DivExpr, MinExpr, MaxExpr, AbsExpr, LutExpr}
use Rattle.fixed_expr.specs.Mentions.{mentions}

-- the expression is a variable, plus or minus what doesn't mention it
abbrev pub shifts_with : Expression → ℕ → Bool
shifts_with (NumExpr c) k = false
shifts_with (VarExpr j) k = j == k
shifts_with (NegExpr a) k = false
shifts_with (AddExpr a b) k = shifts_with a k && not (mentions b k) || not (mentions a k) && shifts_with b k
shifts_with (SubExpr a b) k = shifts_with a k && not (mentions b k)
shifts_with (MulExpr a b) k = false
shifts_with (DivExpr a c) k = false
shifts_with (MinExpr a b) k = false
shifts_with (MaxExpr a b) k = false
shifts_with (AbsExpr a) k = false
shifts_with (LutExpr a points) k = false
