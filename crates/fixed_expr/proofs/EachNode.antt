-- What holds of every node of an expression.
use Rattle.std.specs.Prelude.{ℕ}
use Rattle.std.specs.Coded.{×_prop}
use Rattle.fixed_expr.specs.Expression.{Expression, AllNodes, NumExpr, VarExpr, NegExpr, AddExpr, SubExpr, MulExpr, DivExpr, MinExpr, MaxExpr, AbsExpr, LutExpr}
use Rattle.fixed_expr.specs.Value.{IsWellFormed}

pub three_prop : {A B C : Type 0} → IsProp A → IsProp B → IsProp C → IsProp (A × B × C)
three_prop a b c = λ p q i. (a p.0 q.0 i, b p.1 q.1 i, c p.2 q.2 i)

module _ {C : Type 0} (Fact : Expression → C → Type 0) (context : C) where
  -- it holds of the whole
  pub of_whole : (e : Expression) → AllNodes Fact e context → Fact e context
  of_whole (NumExpr k) h = h
  of_whole (VarExpr i) h = h
  of_whole (NegExpr a) h = h.1
  of_whole (AddExpr a b) h = h.2
  of_whole (SubExpr a b) h = h.2
  of_whole (MulExpr a b) h = h.2
  of_whole (DivExpr a k) h = h.1
  of_whole (MinExpr a b) h = h.2
  of_whole (MaxExpr a b) h = h.2
  of_whole (AbsExpr a) h = h.1
  of_whole (LutExpr a points) h = h.1

  -- and it is a proposition where the fact is one
  pub AllNodes-prop : ((e : Expression) → IsProp (Fact e context)) → (e : Expression) → IsProp (AllNodes Fact e context)
  AllNodes-prop each (NumExpr k) = each (NumExpr k)
  AllNodes-prop each (VarExpr i) = each (VarExpr i)
  AllNodes-prop each (NegExpr a) = ×_prop (AllNodes-prop each a) (each (NegExpr a))
  AllNodes-prop each (AddExpr a b) = three_prop (AllNodes-prop each a) (AllNodes-prop each b) (each (AddExpr a b))
  AllNodes-prop each (SubExpr a b) = three_prop (AllNodes-prop each a) (AllNodes-prop each b) (each (SubExpr a b))
  AllNodes-prop each (MulExpr a b) = three_prop (AllNodes-prop each a) (AllNodes-prop each b) (each (MulExpr a b))
  AllNodes-prop each (DivExpr a k) = ×_prop (AllNodes-prop each a) (each (DivExpr a k))
  AllNodes-prop each (MinExpr a b) = three_prop (AllNodes-prop each a) (AllNodes-prop each b) (each (MinExpr a b))
  AllNodes-prop each (MaxExpr a b) = three_prop (AllNodes-prop each a) (AllNodes-prop each b) (each (MaxExpr a b))
  AllNodes-prop each (AbsExpr a) = ×_prop (AllNodes-prop each a) (each (AbsExpr a))
  AllNodes-prop each (LutExpr a points) = ×_prop (AllNodes-prop each a) (each (LutExpr a points))

-- what follows from a fact of each well-formed node holds of every node where the fact does
module _ {C D : Type 0} (Fact : Expression → C → Type 0) (Result : Expression → D → Type 0) (given : C) (found : D) (m : ℕ) (at : (e : Expression) → IsWellFormed e m → Fact e given → Result e found) where
  pub follows : (e : Expression) → IsWellFormed e m → AllNodes Fact e given → AllNodes Result e found
  follows (NumExpr k) formed h = at (NumExpr k) formed h
  follows (VarExpr i) formed h = at (VarExpr i) formed h
  follows (NegExpr a) formed h = (follows a formed h.0, at (NegExpr a) formed h.1)
  follows (AddExpr a b) formed h = (follows a formed.0 h.0, follows b formed.1 h.1, at (AddExpr a b) formed h.2)
  follows (SubExpr a b) formed h = (follows a formed.0 h.0, follows b formed.1 h.1, at (SubExpr a b) formed h.2)
  follows (MulExpr a b) formed h = (follows a formed.0 h.0, follows b formed.1 h.1, at (MulExpr a b) formed h.2)
  follows (DivExpr a k) formed h = (follows a formed.0 h.0, at (DivExpr a k) formed h.1)
  follows (MinExpr a b) formed h = (follows a formed.0 h.0, follows b formed.1 h.1, at (MinExpr a b) formed h.2)
  follows (MaxExpr a b) formed h = (follows a formed.0 h.0, follows b formed.1 h.1, at (MaxExpr a b) formed h.2)
  follows (AbsExpr a) formed h = (follows a formed h.0, at (AbsExpr a) formed h.1)
  follows (LutExpr a points) formed h = (follows a formed.0 h.0, at (LutExpr a points) formed h.1)
