-- The levels of expressions in a text. No public clause names this.
use Rattle.std.specs.Prelude.{ℕ}
use Rattle.fixed_expr.specs.Expression.{Expression, NumExpr, VarExpr, NegExpr, AddExpr, SubExpr, MulExpr, DivExpr, MinExpr, MaxExpr, AbsExpr, LutExpr}
use Rattle.plant_writing.specs.declared.expression_writer.Level.{Level}
use Rattle.plant_writing.specs.declared.expression_writer.Level.TheVariants as level

-- the number of a level, from 1 for sums to 3 for factors
abbrev pub number_of : Level → ℕ
number_of level.Sum = 1
number_of level.Product = 2
number_of level.Factor = 3

-- the level of an expression
abbrev pub own_level : Expression → ℕ
own_level (NumExpr k) = 3
own_level (VarExpr i) = 3
own_level (NegExpr a) = 3
own_level (AddExpr a b) = 1
own_level (SubExpr a b) = 1
own_level (MulExpr a b) = 2
own_level (DivExpr a k) = 2
own_level (MinExpr a b) = 3
own_level (MaxExpr a b) = 3
own_level (AbsExpr a) = 3
own_level (LutExpr a points) = 3
