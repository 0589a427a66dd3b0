-- The canonical text of an expression: one space on either side of an operator, brackets only where they are needed.
use Rattle.std.specs.Prelude.{ℕ, ℤ, List, [], ◌++◌, nat_lt, if◌then◌else◌, slice_index_or, codes}
use Rattle.std.specs.List.{flat_map}
use Rattle.std.specs.Fmt.{signed_decimal}
use Rattle.fixed_expr.specs.Expression.{Expression, NumExpr, VarExpr, NegExpr, AddExpr, SubExpr, MulExpr, DivExpr, MinExpr, MaxExpr, AbsExpr, LutExpr}

-- the text, in brackets where its own level is less than the one that its position needs
abbrev pub at_level : ℕ → ℕ → List ℕ → List ℕ
at_level own asked text = if nat_lt own asked then codes "(" ++ text ++ codes ")" else text

-- a point of a table, with the comma before it
abbrev pub point_text : ℤ × ℤ → List ℕ
point_text p = codes ", " ++ signed_decimal p.0 ++ codes ":" ++ signed_decimal p.1

-- an expression at a position that needs a level: sums have 1, products 2, all others 3
abbrev pub expression_text : List (List ℕ) → ℕ → Expression → List ℕ
expression_text names asked (NumExpr k) = signed_decimal k
expression_text names asked (VarExpr i) = slice_index_or names i []
expression_text names asked (NegExpr a) = codes "-" ++ expression_text names 3 a
expression_text names asked (AddExpr a b) = at_level 1 asked (expression_text names 1 a ++ codes " + " ++ expression_text names 2 b)
expression_text names asked (SubExpr a b) = at_level 1 asked (expression_text names 1 a ++ codes " - " ++ expression_text names 2 b)
expression_text names asked (MulExpr a b) = at_level 2 asked (expression_text names 2 a ++ codes " * " ++ expression_text names 3 b)
expression_text names asked (DivExpr a k) = at_level 2 asked (expression_text names 2 a ++ codes " / " ++ signed_decimal k)
expression_text names asked (MinExpr a b) = codes "min(" ++ expression_text names 1 a ++ codes ", " ++ expression_text names 1 b ++ codes ")"
expression_text names asked (MaxExpr a b) = codes "max(" ++ expression_text names 1 a ++ codes ", " ++ expression_text names 1 b ++ codes ")"
expression_text names asked (AbsExpr a) = codes "abs(" ++ expression_text names 1 a ++ codes ")"
expression_text names asked (LutExpr a points) = codes "lut(" ++ expression_text names 1 a ++ flat_map point_text points ++ codes ")"
