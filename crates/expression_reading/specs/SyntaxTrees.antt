-- The grammar of expressions, by their concrete syntax trees.
use Rattle.std.specs.Prelude.{◌≡◌, ℕ, suc, ◌<◌, ◌≤◌, max, ℤ, pos, negsuc, List, [], ◌∷◌, ◌++◌, length, slice_index_or, codes}
use Rattle.std.specs.List.{flat_map}
use Rattle.std.specs.Fmt.{decimal}
use Rattle.fixed_expr.specs.Expression.{Expression, NumExpr, VarExpr, NegExpr, AddExpr, SubExpr, MulExpr, DivExpr, MinExpr, MaxExpr, AbsExpr, LutExpr, nodes_of, depth_of}
use Rattle.fixed_expr.specs.Curves.{IsCurve}
use Rattle.base.specs.declared.limits.TheConstants.{BRACKETS_LIMIT, DEPTH_LIMIT, NODES_LIMIT, NUMBER_LIMIT}

-- An expression as it is written, brackets included.
pub data Syntax : Type 0 where
  NumTree : (k : ℕ) → Syntax
  VarTree : (i : ℕ) → Syntax
  NegTree : (a : Syntax) → Syntax
  AddTree : (a b : Syntax) → Syntax
  SubTree : (a b : Syntax) → Syntax
  MulTree : (a b : Syntax) → Syntax
  DivTree : (a : Syntax) (k : ℕ) → Syntax
  MinTree : (a b : Syntax) → Syntax
  MaxTree : (a b : Syntax) → Syntax
  AbsTree : (a : Syntax) → Syntax
  LutTree : (a : Syntax) (points : List (ℤ × ℤ)) → Syntax
  ParenTree : (a : Syntax) → Syntax

-- the tokens of a number with its sign
abbrev pub signed_tokens : ℤ → List (List ℕ)
signed_tokens (pos n) = decimal n ∷ []
signed_tokens (negsuc n) = codes "-" ∷ decimal (suc n) ∷ []

-- the tokens of a point of a table, with the comma before it
abbrev pub point_tokens : ℤ × ℤ → List (List ℕ)
point_tokens p = codes "," ∷ signed_tokens p.0 ++ codes ":" ∷ signed_tokens p.1

-- its tokens, the variables by their names
abbrev pub yield_of : List (List ℕ) → Syntax → List (List ℕ)
yield_of names (NumTree k) = decimal k ∷ []
yield_of names (VarTree i) = slice_index_or names i [] ∷ []
yield_of names (NegTree a) = codes "-" ∷ yield_of names a
yield_of names (AddTree a b) = yield_of names a ++ codes "+" ∷ yield_of names b
yield_of names (SubTree a b) = yield_of names a ++ codes "-" ∷ yield_of names b
yield_of names (MulTree a b) = yield_of names a ++ codes "*" ∷ yield_of names b
yield_of names (DivTree a k) = yield_of names a ++ codes "/" ∷ decimal k ∷ []
yield_of names (MinTree a b) = codes "min" ∷ codes "(" ∷ yield_of names a ++ codes "," ∷ yield_of names b ++ codes ")" ∷ []
yield_of names (MaxTree a b) = codes "max" ∷ codes "(" ∷ yield_of names a ++ codes "," ∷ yield_of names b ++ codes ")" ∷ []
yield_of names (AbsTree a) = codes "abs" ∷ codes "(" ∷ yield_of names a ++ codes ")" ∷ []
yield_of names (LutTree a points) = codes "lut" ∷ codes "(" ∷ yield_of names a ++ flat_map point_tokens points ++ codes ")" ∷ []
yield_of names (ParenTree a) = codes "(" ∷ yield_of names a ++ codes ")" ∷ []

-- sums have level 1, products 2, factors 3
abbrev pub level_of : Syntax → ℕ
level_of (AddTree a b) = 1
level_of (SubTree a b) = 1
level_of (MulTree a b) = 2
level_of (DivTree a k) = 2
level_of factor = 3

-- the rules of the grammar over m variables: sums and products group to the left, a divisor isn't 0, the points of a table rise
abbrev pub IsGrammatical : ℕ → Syntax → Type 0
IsGrammatical m (NumTree k) = k < NUMBER_LIMIT
IsGrammatical m (VarTree i) = i < m
IsGrammatical m (NegTree a) = IsGrammatical m a × (3 ≤ level_of a)
IsGrammatical m (AddTree a b) = IsGrammatical m a × IsGrammatical m b × (2 ≤ level_of b)
IsGrammatical m (SubTree a b) = IsGrammatical m a × IsGrammatical m b × (2 ≤ level_of b)
IsGrammatical m (MulTree a b) = IsGrammatical m a × (2 ≤ level_of a) × IsGrammatical m b × (3 ≤ level_of b)
IsGrammatical m (DivTree a k) = IsGrammatical m a × (2 ≤ level_of a) × (1 ≤ k) × (k < NUMBER_LIMIT)
IsGrammatical m (MinTree a b) = IsGrammatical m a × IsGrammatical m b
IsGrammatical m (MaxTree a b) = IsGrammatical m a × IsGrammatical m b
IsGrammatical m (AbsTree a) = IsGrammatical m a
IsGrammatical m (LutTree a points) = IsGrammatical m a × IsCurve points
IsGrammatical m (ParenTree a) = IsGrammatical m a

-- what it means; brackets make no node
abbrev pub meaning_of : Syntax → Expression
meaning_of (NumTree k) = NumExpr (pos k)
meaning_of (VarTree i) = VarExpr i
meaning_of (NegTree a) = NegExpr (meaning_of a)
meaning_of (AddTree a b) = AddExpr (meaning_of a) (meaning_of b)
meaning_of (SubTree a b) = SubExpr (meaning_of a) (meaning_of b)
meaning_of (MulTree a b) = MulExpr (meaning_of a) (meaning_of b)
meaning_of (DivTree a k) = DivExpr (meaning_of a) (pos k)
meaning_of (MinTree a b) = MinExpr (meaning_of a) (meaning_of b)
meaning_of (MaxTree a b) = MaxExpr (meaning_of a) (meaning_of b)
meaning_of (AbsTree a) = AbsExpr (meaning_of a)
meaning_of (LutTree a points) = LutExpr (meaning_of a) points
meaning_of (ParenTree a) = meaning_of a

-- how many brackets are open at once, those of minima, maxima, absolute values and tables included
abbrev pub brackets_of : Syntax → ℕ
brackets_of (NegTree a) = brackets_of a
brackets_of (AddTree a b) = max (brackets_of a) (brackets_of b)
brackets_of (SubTree a b) = max (brackets_of a) (brackets_of b)
brackets_of (MulTree a b) = max (brackets_of a) (brackets_of b)
brackets_of (DivTree a k) = brackets_of a
brackets_of (MinTree a b) = suc (max (brackets_of a) (brackets_of b))
brackets_of (MaxTree a b) = suc (max (brackets_of a) (brackets_of b))
brackets_of (AbsTree a) = suc (brackets_of a)
brackets_of (LutTree a points) = suc (brackets_of a)
brackets_of (ParenTree a) = suc (brackets_of a)
brackets_of leaf = 0

-- The tokens spell an expression over these names.
pub record AreTokensOf (names : List (List ℕ)) (tokens : List (List ℕ)) (e : Expression) : Type 0 where
  pub syntax_tree : Syntax
  pub grammatical : IsGrammatical (length names) syntax_tree
  pub yields : yield_of names syntax_tree ≡ tokens
  pub means : meaning_of syntax_tree ≡ e
  pub nodes : nodes_of e ≤ NODES_LIMIT
  pub depth : depth_of e ≤ DEPTH_LIMIT
  pub brackets : brackets_of syntax_tree ≤ BRACKETS_LIMIT
