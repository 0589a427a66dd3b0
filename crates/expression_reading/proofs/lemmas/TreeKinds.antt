-- The grammar over tokens is the grammar over their kinds.
use Rattle.std.proofs.Common.{◌≡◌, ℕ, ◌^◌, ◌<◌, List, [], ◌∷◌, ◌++◌, length, map, append_assoc, refl, sym, ap, subst, ◌∙◌}
use Rattle.std.specs.Prelude.{ℤ, pos, negsuc, nat_abs, codes}
use Rattle.std.specs.List.{AllByRecursion, flat_map}
use Rattle.std.proofs.lemmas.List.{map-append}
use Rattle.std.proofs.lemmas.List.Elements.{recursion_from_All}
use Rattle.expression_reading.specs.declared.token_kind.TokenKind.{TokenKind}
use Rattle.expression_reading.specs.declared.token_kind.TokenKind.TheVariants as kind
use Rattle.fixed_expr.specs.Expression.{Expression}
use Rattle.fixed_expr.specs.Curves.{IsShort}
use Rattle.expression_reading.specs.SyntaxTrees.{Syntax, NumTree, VarTree, NegTree, AddTree, SubTree, MulTree, DivTree, MinTree, MaxTree, AbsTree, LutTree, ParenTree, signed_tokens, point_tokens, yield_of, IsGrammatical, AreTokensOf}
use Rattle.expression_reading.specs.KindTrees.{signed_kinds, point_kinds, kinds_of, AreKindsOf}
use Rattle.expression_reading.specs.TokenKinds.{AreNames, kinds_among, spelling_of, IsKind}
use Rattle.expression_reading.proofs.lemmas.KindSpelling.{kind_again, kind_takes}

-- ---- a tree's tokens are the spellings of its kinds

module _ (names : List (List ℕ)) where
  abbrev spelled : List TokenKind → List (List ℕ)
  spelled ts = map (spelling_of names) ts

  both : (a b : List TokenKind) (x y : List (List ℕ)) → x ≡ spelled a → y ≡ spelled b → x ++ y ≡ spelled (a ++ b)
  both a b x y h k = ap (λ (z : List (List ℕ)). z ++ y) h ∙ ap (λ (z : List (List ℕ)). spelled a ++ z) k ∙ sym (map-append (spelling_of names) a b)

  then : (t : TokenKind) (x : List (List ℕ)) (ts : List TokenKind) → x ≡ spelled ts → spelling_of names t ∷ x ≡ spelled (t ∷ ts)
  then t x ts h = ap (λ (z : List (List ℕ)). spelling_of names t ∷ z) h

  signed_same : (z : ℤ) → signed_tokens z ≡ spelled (signed_kinds z)
  signed_same (pos n) = refl
  signed_same (negsuc n) = refl

  point_same : (p : ℤ × ℤ) → point_tokens p ≡ spelled (point_kinds p)
  point_same p = then kind.Comma _ _ (both (signed_kinds p.0) (kind.Colon ∷ signed_kinds p.1) _ _ (signed_same p.0) (then kind.Colon _ _ (signed_same p.1)))

  points_same : (points : List (ℤ × ℤ)) → flat_map point_tokens points ≡ spelled (flat_map point_kinds points)
  points_same [] = refl
  points_same (p ∷ points) = both (point_kinds p) (flat_map point_kinds points) (point_tokens p) (flat_map point_tokens points) (point_same p) (points_same points)

  closed : (x : List (List ℕ)) (ts : List TokenKind) → x ≡ spelled ts → x ++ codes ")" ∷ [] ≡ spelled (ts ++ kind.Close ∷ [])
  closed x ts h = both ts (kind.Close ∷ []) x (codes ")" ∷ []) h refl

  yields_same : (t : Syntax) → yield_of names t ≡ spelled (kinds_of t)
  yields_same (NumTree k) = refl
  yields_same (VarTree i) = refl
  yields_same (NegTree a) = then kind.Minus _ _ (yields_same a)
  yields_same (AddTree a b) = both (kinds_of a) (kind.Plus ∷ kinds_of b) _ _ (yields_same a) (then kind.Plus _ _ (yields_same b))
  yields_same (SubTree a b) = both (kinds_of a) (kind.Minus ∷ kinds_of b) _ _ (yields_same a) (then kind.Minus _ _ (yields_same b))
  yields_same (MulTree a b) = both (kinds_of a) (kind.Star ∷ kinds_of b) _ _ (yields_same a) (then kind.Star _ _ (yields_same b))
  yields_same (DivTree a k) = both (kinds_of a) (kind.Slash ∷ kind.Number k ∷ []) _ _ (yields_same a) refl
  yields_same (MinTree a b) = ap (λ (z : List (List ℕ)). codes "min" ∷ codes "(" ∷ z) (append_assoc (yield_of names a) (codes "," ∷ yield_of names b) (codes ")" ∷ []))
      ∙ then kind.Min _ (kind.Open ∷ (kinds_of a ++ kind.Comma ∷ (kinds_of b ++ kind.Close ∷ []))) (then kind.Open _ _ (both (kinds_of a) (kind.Comma ∷ (kinds_of b ++ kind.Close ∷ [])) _ _ (yields_same a) (then kind.Comma _ _ (closed _ (kinds_of b) (yields_same b)))))
  yields_same (MaxTree a b) = ap (λ (z : List (List ℕ)). codes "max" ∷ codes "(" ∷ z) (append_assoc (yield_of names a) (codes "," ∷ yield_of names b) (codes ")" ∷ []))
      ∙ then kind.Max _ (kind.Open ∷ (kinds_of a ++ kind.Comma ∷ (kinds_of b ++ kind.Close ∷ []))) (then kind.Open _ _ (both (kinds_of a) (kind.Comma ∷ (kinds_of b ++ kind.Close ∷ [])) _ _ (yields_same a) (then kind.Comma _ _ (closed _ (kinds_of b) (yields_same b)))))
  yields_same (AbsTree a) = then kind.Abs _ (kind.Open ∷ (kinds_of a ++ kind.Close ∷ [])) (then kind.Open _ _ (closed _ (kinds_of a) (yields_same a)))
  yields_same (LutTree a points) = ap (λ (z : List (List ℕ)). codes "lut" ∷ codes "(" ∷ z) (append_assoc (yield_of names a) (flat_map point_tokens points) (codes ")" ∷ []))
      ∙ then kind.Lut _ (kind.Open ∷ (kinds_of a ++ (flat_map point_kinds points ++ kind.Close ∷ []))) (then kind.Open _ _ (both (kinds_of a) (flat_map point_kinds points ++ kind.Close ∷ []) _ _ (yields_same a) (closed _ (flat_map point_kinds points) (points_same points))))
  yields_same (ParenTree a) = then kind.Open _ _ (closed _ (kinds_of a) (yields_same a))

-- ---- a grammatical tree has kinds that an expression may have

module _ (m : ℕ) where
  abbrev Are : List TokenKind → Type 0
  Are ts = AllByRecursion (IsKind m) ts

  are_both : (a b : List TokenKind) → Are a → Are b → Are (a ++ b)
  are_both [] b h k = k
  are_both (t ∷ a) b h k = (h.0, are_both a b h.1 k)

  are_closed : (ts : List TokenKind) → Are ts → Are (ts ++ kind.Close ∷ [])
  are_closed ts h = are_both ts (kind.Close ∷ []) h (tt, tt)

  signed_are : (z : ℤ) → nat_abs z < 10 ^ 18 → Are (signed_kinds z)
  signed_are (pos n) lt = (lt, tt)
  signed_are (negsuc n) lt = (tt, (lt, tt))

  points_are : (points : List (ℤ × ℤ)) → AllByRecursion IsShort points → Are (flat_map point_kinds points)
  points_are [] h = tt
  points_are (p ∷ points) h = are_both (point_kinds p) (flat_map point_kinds points) (tt, are_both (signed_kinds p.0) (kind.Colon ∷ signed_kinds p.1) (signed_are p.0 h.0.0) (tt, signed_are p.1 h.0.1)) (points_are points h.1)

  kinds_are : (t : Syntax) → IsGrammatical m t → Are (kinds_of t)
  kinds_are (NumTree k) g = (g, tt)
  kinds_are (VarTree i) g = (g, tt)
  kinds_are (NegTree a) g = (tt, kinds_are a g.0)
  kinds_are (AddTree a b) g = are_both (kinds_of a) (kind.Plus ∷ kinds_of b) (kinds_are a g.0) (tt, kinds_are b g.1)
  kinds_are (SubTree a b) g = are_both (kinds_of a) (kind.Minus ∷ kinds_of b) (kinds_are a g.0) (tt, kinds_are b g.1)
  kinds_are (MulTree a b) g = are_both (kinds_of a) (kind.Star ∷ kinds_of b) (kinds_are a g.0) (tt, kinds_are b g.2)
  kinds_are (DivTree a k) g = are_both (kinds_of a) (kind.Slash ∷ kind.Number k ∷ []) (kinds_are a g.0) (tt, (g.3, tt))
  kinds_are (MinTree a b) g = (tt, (tt, are_both (kinds_of a) (kind.Comma ∷ (kinds_of b ++ kind.Close ∷ [])) (kinds_are a g.0) (tt, are_closed (kinds_of b) (kinds_are b g.1))))
  kinds_are (MaxTree a b) g = (tt, (tt, are_both (kinds_of a) (kind.Comma ∷ (kinds_of b ++ kind.Close ∷ [])) (kinds_are a g.0) (tt, are_closed (kinds_of b) (kinds_are b g.1))))
  kinds_are (AbsTree a) g = (tt, (tt, are_closed (kinds_of a) (kinds_are a g)))
  kinds_are (LutTree a points) g = (tt, (tt, are_both (kinds_of a) (flat_map point_kinds points ++ kind.Close ∷ []) (kinds_are a g.0) (are_closed (flat_map point_kinds points) (points_are points (recursion_from_All IsShort points g.1.short)))))
  kinds_are (ParenTree a) g = (tt, are_closed (kinds_of a) (kinds_are a g))

-- ---- the two grammars

module _ (names : List (List ℕ)) (ok : AreNames names) where
  kinds_again : (ts : List TokenKind) → AllByRecursion (IsKind (length names)) ts → kinds_among names (map (spelling_of names) ts) ≡ ts
  kinds_again [] h = refl
  kinds_again (t ∷ ts) h = ap (λ (u : TokenKind). u ∷ kinds_among names (map (spelling_of names) ts)) (kind_again names t ok h.0) ∙ ap (λ (us : List TokenKind). t ∷ us) (kinds_again ts h.1)

  kinds_take : (ws : List (List ℕ)) → AllByRecursion (IsKind (length names)) (kinds_among names ws) → map (spelling_of names) (kinds_among names ws) ≡ ws
  kinds_take [] h = refl
  kinds_take (w ∷ ws) h = ap (λ (v : List ℕ). v ∷ map (spelling_of names) (kinds_among names ws)) (sym (kind_takes names w h.0)) ∙ ap (λ (vs : List (List ℕ)). w ∷ vs) (kinds_take ws h.1)

  pub to_kinds : (ws : List (List ℕ)) (e : Expression) → AreTokensOf names ws e → AreKindsOf (length names) (kinds_among names ws) e
  to_kinds ws e h =
      let are = kinds_are (length names) h.syntax_tree h.grammatical in
      record {
        syntax_tree = h.syntax_tree;
        grammatical = h.grammatical;
        yields = sym (kinds_again (kinds_of h.syntax_tree) are) ∙ ap (kinds_among names) (sym (yields_same names h.syntax_tree) ∙ h.yields);
        means = h.means;
        nodes = h.nodes;
        depth = h.depth;
        brackets = h.brackets;
      }

  pub from_kinds : (ws : List (List ℕ)) (e : Expression) → AreKindsOf (length names) (kinds_among names ws) e → AreTokensOf names ws e
  from_kinds ws e h =
      let are : AllByRecursion (IsKind (length names)) (kinds_among names ws) = subst (AllByRecursion (IsKind (length names))) h.yields (kinds_are (length names) h.syntax_tree h.grammatical) in
      record {
        syntax_tree = h.syntax_tree;
        grammatical = h.grammatical;
        yields = yields_same names h.syntax_tree ∙ ap (map (spelling_of names)) h.yields ∙ kinds_take ws are;
        means = h.means;
        nodes = h.nodes;
        depth = h.depth;
        brackets = h.brackets;
      }
