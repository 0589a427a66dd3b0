-- The grammar of expressions over kinds of tokens.
use Rattle.std.specs.Prelude.{◌≡◌, ℕ, suc, ◌≤◌, ℤ, pos, negsuc, List, [], ◌∷◌, ◌++◌}
use Rattle.std.specs.List.{flat_map}
use Rattle.fixed_expr.specs.Expression.{Expression, nodes_of, depth_of}
use Rattle.expression_reading.specs.declared.token_kind.TokenKind.{TokenKind}
use Rattle.expression_reading.specs.declared.token_kind.TokenKind.TheVariants as kind
use Rattle.expression_reading.specs.SyntaxTrees.{Syntax, NumTree, VarTree, NegTree, AddTree, SubTree, MulTree, DivTree, MinTree, MaxTree, AbsTree, LutTree, ParenTree, IsGrammatical, meaning_of, brackets_of}
use Rattle.base.specs.declared.limits.TheConstants.{BRACKETS_LIMIT, DEPTH_LIMIT, NODES_LIMIT}

-- the kinds of a number with its sign
abbrev pub signed_kinds : ℤ → List TokenKind
signed_kinds (pos n) = kind.Number n ∷ []
signed_kinds (negsuc n) = kind.Minus ∷ kind.Number (suc n) ∷ []

-- the kinds of a point of a table, with the comma before it
abbrev pub point_kinds : ℤ × ℤ → List TokenKind
point_kinds p = kind.Comma ∷ (signed_kinds p.0 ++ kind.Colon ∷ signed_kinds p.1)

-- the kinds of a tree's tokens
abbrev pub kinds_of : Syntax → List TokenKind
kinds_of (NumTree k) = kind.Number k ∷ []
kinds_of (VarTree i) = kind.Variable i ∷ []
kinds_of (NegTree a) = kind.Minus ∷ kinds_of a
kinds_of (AddTree a b) = kinds_of a ++ kind.Plus ∷ kinds_of b
kinds_of (SubTree a b) = kinds_of a ++ kind.Minus ∷ kinds_of b
kinds_of (MulTree a b) = kinds_of a ++ kind.Star ∷ kinds_of b
kinds_of (DivTree a k) = kinds_of a ++ kind.Slash ∷ kind.Number k ∷ []
kinds_of (MinTree a b) = kind.Min ∷ kind.Open ∷ (kinds_of a ++ kind.Comma ∷ (kinds_of b ++ kind.Close ∷ []))
kinds_of (MaxTree a b) = kind.Max ∷ kind.Open ∷ (kinds_of a ++ kind.Comma ∷ (kinds_of b ++ kind.Close ∷ []))
kinds_of (AbsTree a) = kind.Abs ∷ kind.Open ∷ (kinds_of a ++ kind.Close ∷ [])
kinds_of (LutTree a points) = kind.Lut ∷ kind.Open ∷ (kinds_of a ++ (flat_map point_kinds points ++ kind.Close ∷ []))
kinds_of (ParenTree a) = kind.Open ∷ (kinds_of a ++ kind.Close ∷ [])

-- Tokens of these kinds spell an expression over m variables.
pub record AreKindsOf (m : ℕ) (kinds : List TokenKind) (e : Expression) : Type 0 where
  pub syntax_tree : Syntax
  pub grammatical : IsGrammatical m syntax_tree
  pub yields : kinds_of syntax_tree ≡ kinds
  pub means : meaning_of syntax_tree ≡ e
  pub nodes : nodes_of e ≤ NODES_LIMIT
  pub depth : depth_of e ≤ DEPTH_LIMIT
  pub brackets : brackets_of syntax_tree ≤ BRACKETS_LIMIT
