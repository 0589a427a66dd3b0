-- What the equations of a plant keep.
use Rattle.std.specs.Prelude.{ℕ, ◌<◌, ◌≤◌, pos, ◌≤ℤ◌}
pub use Rattle.fixed_expr.specs.Expression.{nodes_of, depth_of}
use Rattle.fixed_expr.specs.Expression.{Expression, NumExpr, VarExpr, NegExpr, AddExpr, SubExpr, MulExpr, DivExpr, MinExpr, MaxExpr, AbsExpr, LutExpr}
use Rattle.fixed_expr.specs.Curves.{IsCurve}
use Rattle.line_words.specs.Numbers.{IsLiteral}
use Rattle.base.specs.declared.limits.TheConstants.{DEPTH_LIMIT, NODES_LIMIT}

-- numbers without sign, one of the first m variables, divisors of at least 1, and tables that are curves
abbrev pub HasLiterals : ℕ → Expression → Type 0
HasLiterals m (NumExpr k) = (pos 0 ≤ℤ k) × IsLiteral k
HasLiterals m (VarExpr i) = i < m
HasLiterals m (NegExpr a) = HasLiterals m a
HasLiterals m (AddExpr a b) = HasLiterals m a × HasLiterals m b
HasLiterals m (SubExpr a b) = HasLiterals m a × HasLiterals m b
HasLiterals m (MulExpr a b) = HasLiterals m a × HasLiterals m b
HasLiterals m (DivExpr a k) = HasLiterals m a × (pos 1 ≤ℤ k) × IsLiteral k
HasLiterals m (MinExpr a b) = HasLiterals m a × HasLiterals m b
HasLiterals m (MaxExpr a b) = HasLiterals m a × HasLiterals m b
HasLiterals m (AbsExpr a) = HasLiterals m a
HasLiterals m (LutExpr a points) = HasLiterals m a × IsCurve points

-- no part of the expression is a table
abbrev pub HasNoLut : Expression → Type 0
HasNoLut (NumExpr k) = Unit {0}
HasNoLut (VarExpr i) = Unit {0}
HasNoLut (NegExpr a) = HasNoLut a
HasNoLut (AddExpr a b) = HasNoLut a × HasNoLut b
HasNoLut (SubExpr a b) = HasNoLut a × HasNoLut b
HasNoLut (MulExpr a b) = HasNoLut a × HasNoLut b
HasNoLut (DivExpr a k) = HasNoLut a
HasNoLut (MinExpr a b) = HasNoLut a × HasNoLut b
HasNoLut (MaxExpr a b) = HasNoLut a × HasNoLut b
HasNoLut (AbsExpr a) = HasNoLut a
HasNoLut (LutExpr a points) = ⊥

-- An equation over m variables has at most 256 nodes, and at most 64 of them one below another.
pub record IsEquation (m : ℕ) (e : Expression) : Type 0 where
  pub literals : HasLiterals m e
  pub nodes : nodes_of e ≤ NODES_LIMIT
  pub depth : depth_of e ≤ DEPTH_LIMIT
