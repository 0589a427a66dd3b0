-- What is read is spelled by a grammatical tree of that meaning.
use Rattle.std.proofs.Common.{◌≡◌, ℕ, zero, suc, ◌-◌, ◌^◌, ◌<◌, ◌≤◌, cond, eqb, leb, ltb, List, [], ◌∷◌, ◌++◌, length, Some, None, refl, sym, ap, subst, ◌∙◌, append_assoc, arith, ◌&&◌}
use Rattle.std.specs.Prelude.{ℤ, pos}
use Rattle.std.specs.List.{flat_map}
use Rattle.std.proofs.lemmas.List.{append-nil, nil_from_length}
use Rattle.std.proofs.lemmas.Bool.{and_parts, leb-true, ltb-true, eqb-true}
use Rattle.expression_reading.specs.declared.token_kind.TokenKind.{TokenKind}
use Rattle.expression_reading.specs.declared.token_kind.TokenKind.TheVariants as kind
use Rattle.fixed_expr.specs.Curves.{IsCurve}
use Rattle.fixed_expr.specs.Expression.{Expression, NumExpr, VarExpr, NegExpr, AddExpr, SubExpr, MulExpr, DivExpr, MinExpr, MaxExpr, AbsExpr, LutExpr, nodes_of, depth_of}
use Rattle.expression_reading.specs.SyntaxTrees.{Syntax, NumTree, VarTree, NegTree, AddTree, SubTree, MulTree, DivTree, MinTree, MaxTree, AbsTree, LutTree, ParenTree, level_of, IsGrammatical, meaning_of, brackets_of}
use Rattle.expression_reading.specs.KindTrees.{point_kinds, kinds_of, AreKindsOf}
use Rattle.expression_reading.specs.inside.ExpressionReading.{IsSmall, ◌>>=◌, Read, kept, after_open, after_close, after_comma, literal_at, divisor_at, curve_at, Ask, Inside, Signed, RestOfSum, RestOfTerm, sum_of, after_sum, term_of, after_term, bracketed, pair_of, factor_of, step, read_at, whole}
use Rattle.expression_reading.proofs.lemmas.ReadParts.{then_some, when_some, past_none, positive}
use Rattle.expression_reading.proofs.lemmas.CurvePoints.{literal_takes, divisor_takes, curve_takes}

-- A grammatical tree of at least a level means an expression, and its tokens stand before others.
pub record Spells (m l b : ℕ) (ts : List TokenKind) (y : Expression × List TokenKind) : Type 0 where
  pub tree : Syntax
  pub grammatical : IsGrammatical m tree
  pub level : l ≤ level_of tree
  pub means : meaning_of tree ≡ y.0
  pub yields : kinds_of tree ++ y.1 ≡ ts
  pub brackets : brackets_of tree ≤ b
  pub small : IsSmall y.0

-- A sum in a bracket of those that may be opened.
record Within (m b : ℕ) (ts : List TokenKind) (y : Expression × List TokenKind) : Type 0 where
  some : 1 ≤ b
  sum : Spells m 1 (b - 1) ts y

-- what a reader owes
abbrev Owes : ℕ → Ask → Expression × List TokenKind → Type 0
Owes m (Inside b ts) y = Within m b ts y
Owes m (Signed b ts) y = Spells m 3 b ts y
Owes m (RestOfSum b a ts) y = (start : List TokenKind) → Spells m 1 b start (a, ts) → Spells m 1 b start y
Owes m (RestOfTerm b a ts) y = (start : List TokenKind) → Spells m 2 b start (a, ts) → Spells m 2 b start y

abbrev IsSound : ℕ → (Ask → Read) → Type 0
IsSound m r = (q : Ask) (y : Expression × List TokenKind) → r q ≡ Some y → Owes m q y

kept_is : (e y : Expression) → kept e ≡ Some y → (e ≡ y) × IsSmall y
kept_is e y h =
    let p = when_some (leb (nodes_of e) 256 && leb (depth_of e) 64) e y h in
    let t = and_parts (leb (nodes_of e) 256) (leb (depth_of e) 64) p.0 in
    let small : IsSmall e = record { nodes = leb-true _ _ t.0; depth = leb-true _ _ t.1 } in
    (p.1, subst IsSmall p.1 small)

lowered : (m l k b : ℕ) (ts : List TokenKind) (y : Expression × List TokenKind) → l ≤ k → Spells m k b ts y → Spells m l b ts y
lowered m l k b ts y le s = record { tree = s.tree; grammatical = s.grammatical; level = omega (arith, s.level); means = s.means; yields = s.yields; brackets = s.brackets; small = s.small }

leaf_small : (e : Expression) → nodes_of e ≡ 1 → depth_of e ≡ 1 → IsSmall e
leaf_small e n d = record { nodes = omega arith; depth = omega arith }

-- the tokens of two parts with one between them
between : (u v rest ts start : List TokenKind) (t : TokenKind) → u ++ t ∷ ts ≡ start → v ++ rest ≡ ts → (u ++ t ∷ v) ++ rest ≡ start
between u v rest ts start t first second = append_assoc u (t ∷ v) rest ∙ ap (λ (us : List TokenKind). u ++ t ∷ us) second ∙ first

-- ---- sums and terms

plus : (m b : ℕ) (start ts rest : List TokenKind) (a x e : Expression) → Spells m 1 b start (a, kind.Plus ∷ ts) → Spells m 2 b ts (x, rest) → kept (AddExpr a x) ≡ Some e → Spells m 1 b start (e, rest)
plus m b start ts rest a x e p q h =
    let k = kept_is (AddExpr a x) e h in
    record { tree = AddTree p.tree q.tree; grammatical = (p.grammatical, q.grammatical, q.level); level = omega arith; means = cc (p.means, q.means, k.0); yields = between (kinds_of p.tree) (kinds_of q.tree) rest ts start kind.Plus p.yields q.yields; brackets = omega (arith, p.brackets, q.brackets); small = k.1 }

less : (m b : ℕ) (start ts rest : List TokenKind) (a x e : Expression) → Spells m 1 b start (a, kind.Minus ∷ ts) → Spells m 2 b ts (x, rest) → kept (SubExpr a x) ≡ Some e → Spells m 1 b start (e, rest)
less m b start ts rest a x e p q h =
    let k = kept_is (SubExpr a x) e h in
    record { tree = SubTree p.tree q.tree; grammatical = (p.grammatical, q.grammatical, q.level); level = omega arith; means = cc (p.means, q.means, k.0); yields = between (kinds_of p.tree) (kinds_of q.tree) rest ts start kind.Minus p.yields q.yields; brackets = omega (arith, p.brackets, q.brackets); small = k.1 }

times : (m b : ℕ) (start ts rest : List TokenKind) (a x e : Expression) → Spells m 2 b start (a, kind.Star ∷ ts) → Spells m 3 b ts (x, rest) → kept (MulExpr a x) ≡ Some e → Spells m 2 b start (e, rest)
times m b start ts rest a x e p q h =
    let k = kept_is (MulExpr a x) e h in
    record { tree = MulTree p.tree q.tree; grammatical = (p.grammatical, p.level, q.grammatical, q.level); level = omega arith; means = cc (p.means, q.means, k.0); yields = between (kinds_of p.tree) (kinds_of q.tree) rest ts start kind.Star p.yields q.yields; brackets = omega (arith, p.brackets, q.brackets); small = k.1 }

over : (m b k : ℕ) (start ts rest : List TokenKind) (a e : Expression) → Spells m 2 b start (a, kind.Slash ∷ ts) → (ts ≡ kind.Number k ∷ rest) × (1 ≤ k) × (k < 10 ^ 18) → kept (DivExpr a (pos k)) ≡ Some e → Spells m 2 b start (e, rest)
over m b k start ts rest a e p d h =
    let i = kept_is (DivExpr a (pos k)) e h in
    record { tree = DivTree p.tree k; grammatical = (p.grammatical, p.level, d.1, d.2); level = omega arith; means = cc (p.means, i.0); yields = between (kinds_of p.tree) (kind.Number k ∷ []) rest ts start kind.Slash p.yields (sym d.0); brackets = p.brackets; small = i.1 }

-- ---- factors

open_takes : (ts rest : List TokenKind) → after_open ts ≡ Some rest → ts ≡ kind.Open ∷ rest
open_takes (kind.Open ∷ ts) rest e = cc
open_takes ts rest e = absurd cc

close_takes : (ts rest : List TokenKind) → after_close ts ≡ Some rest → ts ≡ kind.Close ∷ rest
close_takes (kind.Close ∷ ts) rest e = cc
close_takes ts rest e = absurd cc

comma_takes : (ts rest : List TokenKind) → after_comma ts ≡ Some rest → ts ≡ kind.Comma ∷ rest
comma_takes (kind.Comma ∷ ts) rest e = cc
comma_takes ts rest e = absurd cc

-- the same with the bracket that closes
record Closed (m b : ℕ) (ts : List TokenKind) (y : Expression × List TokenKind) : Type 0 where
  some : 1 ≤ b
  after : List TokenKind
  close : after ≡ kind.Close ∷ y.1
  sum : Spells m 1 (b - 1) ts (y.0, after)

closed_sound : (m b : ℕ) (r : Ask → Read) (ts : List TokenKind) (y : Expression × List TokenKind) → IsSound m r → bracketed r b ts ≡ Some y → Closed m b ts y
unfolding bracketed
closed_sound m b r ts y s e =
    then_some (Closed m b ts y) (r (Inside b ts)) (λ a. after_close a.1 >>= λ rest. Some (a.0, rest)) y e (λ a inside behind.
    then_some (Closed m b ts y) (after_close a.1) (λ rest. Some (a.0, rest)) y behind (λ rest close all.
    (let q : ◌≡◌ {A = Expression × List TokenKind} (a.0, rest) y = cc all in
    let i = s (Inside b ts) a inside in
    subst (Closed m b ts) q (record { some = i.some; after = a.1; close = close_takes a.1 rest close; sum = i.sum }))))

-- the tokens of a sum and the bracket that closes
with_close : (u rest after ts : List TokenKind) → u ++ after ≡ ts → after ≡ kind.Close ∷ rest → (u ++ kind.Close ∷ []) ++ rest ≡ ts
with_close u rest after ts is close = append_assoc u (kind.Close ∷ []) rest ∙ ap (λ (us : List TokenKind). u ++ us) (sym close) ∙ is

-- Two sums in brackets.
record Pair (m b : ℕ) (ts : List TokenKind) (y : Expression × Expression × List TokenKind) : Type 0 where
  some : 1 ≤ b
  rest : List TokenKind
  inner : List TokenKind
  opened : ts ≡ kind.Open ∷ inner
  first : Spells m 1 (b - 1) inner (y.0, kind.Comma ∷ rest)
  second : Closed m b rest (y.1, y.2)

pair_sound : (m b : ℕ) (r : Ask → Read) (ts : List TokenKind) (y : Expression × Expression × List TokenKind) → IsSound m r → pair_of r b ts ≡ Some y → Pair m b ts y
unfolding pair_of
pair_sound m b r ts y s e =
    then_some (Pair m b ts y) (after_open ts) (λ o. r (Inside b o) >>= λ a. after_comma a.1 >>= λ rest. bracketed r b rest >>= λ c. Some (a.0, c.0, c.1)) y e (λ o opened e1.
    then_some (Pair m b ts y) (r (Inside b o)) (λ a. after_comma a.1 >>= λ rest. bracketed r b rest >>= λ c. Some (a.0, c.0, c.1)) y e1 (λ a inside e2.
    then_some (Pair m b ts y) (after_comma a.1) (λ rest. bracketed r b rest >>= λ c. Some (a.0, c.0, c.1)) y e2 (λ rest comma e3.
    then_some (Pair m b ts y) (bracketed r b rest) (λ c. Some (a.0, c.0, c.1)) y e3 (λ c closed all.
    (let q : ◌≡◌ {A = Expression × Expression × List TokenKind} (a.0, c.0, c.1) y = cc all in
    let i = s (Inside b o) a inside in
    let first : Spells m 1 (b - 1) o (a.0, kind.Comma ∷ rest) = subst (λ (us : List TokenKind). Spells m 1 (b - 1) o (a.0, us)) (comma_takes a.1 rest comma) i.sum in
    subst (Pair m b ts) q (record { some = i.some; rest = rest; inner = o; opened = open_takes ts o opened; first = first; second = closed_sound m b r rest c s closed }))))))

-- the tokens of two sums in brackets
pair_spelled : (u v rest ts inner after mid : List TokenKind) → ts ≡ kind.Open ∷ inner → u ++ kind.Comma ∷ mid ≡ inner → v ++ after ≡ mid → after ≡ kind.Close ∷ rest → (kind.Open ∷ (u ++ kind.Comma ∷ (v ++ kind.Close ∷ []))) ++ rest ≡ ts
pair_spelled u v rest ts inner after mid opened first second close =
    ap (λ (us : List TokenKind). kind.Open ∷ us) (between u (v ++ kind.Close ∷ []) rest mid inner kind.Comma first (with_close v rest after mid second close)) ∙ sym opened

least : (m b : ℕ) (ts : List TokenKind) (y : Expression × Expression × List TokenKind) (e : Expression) → Pair m b ts y → kept (MinExpr y.0 y.1) ≡ Some e → Spells m 3 b (kind.Min ∷ ts) (e, y.2)
least m b ts y e p h =
    let k = kept_is (MinExpr y.0 y.1) e h in
    let f = p.first in
    let c = p.second in
    let g = c.sum in
    record { tree = MinTree f.tree g.tree; grammatical = (f.grammatical, g.grammatical); level = omega arith; means = cc (f.means, g.means, k.0); yields = ap (λ (us : List TokenKind). kind.Min ∷ us) (pair_spelled (kinds_of f.tree) (kinds_of g.tree) y.2 ts p.inner c.after p.rest p.opened f.yields g.yields c.close); brackets = omega (arith, p.some, f.brackets, g.brackets); small = k.1 }

greatest : (m b : ℕ) (ts : List TokenKind) (y : Expression × Expression × List TokenKind) (e : Expression) → Pair m b ts y → kept (MaxExpr y.0 y.1) ≡ Some e → Spells m 3 b (kind.Max ∷ ts) (e, y.2)
greatest m b ts y e p h =
    let k = kept_is (MaxExpr y.0 y.1) e h in
    let f = p.first in
    let c = p.second in
    let g = c.sum in
    record { tree = MaxTree f.tree g.tree; grammatical = (f.grammatical, g.grammatical); level = omega arith; means = cc (f.means, g.means, k.0); yields = ap (λ (us : List TokenKind). kind.Max ∷ us) (pair_spelled (kinds_of f.tree) (kinds_of g.tree) y.2 ts p.inner c.after p.rest p.opened f.yields g.yields c.close); brackets = omega (arith, p.some, f.brackets, g.brackets); small = k.1 }

-- the tokens of a table after its word
table_spelled : (u v rest inner after ts : List TokenKind) → v ++ kind.Close ∷ rest ≡ after → u ++ after ≡ inner → ts ≡ kind.Open ∷ inner → (kind.Lut ∷ kind.Open ∷ (u ++ (v ++ kind.Close ∷ []))) ++ rest ≡ kind.Lut ∷ ts
table_spelled u v rest inner after ts points sum opened =
    ap (λ (us : List TokenKind). kind.Lut ∷ us) (ap (λ (us : List TokenKind). kind.Open ∷ us) (append_assoc u (v ++ kind.Close ∷ []) rest ∙ ap (λ (us : List TokenKind). u ++ us) (append_assoc v (kind.Close ∷ []) rest ∙ points) ∙ sum) ∙ sym opened)

negated : (m b : ℕ) (ts rest : List TokenKind) (a e : Expression) → Spells m 3 b ts (a, rest) → kept (NegExpr a) ≡ Some e → Spells m 3 b (kind.Minus ∷ ts) (e, rest)
negated m b ts rest a e f h =
    let k = kept_is (NegExpr a) e h in
    record { tree = NegTree f.tree; grammatical = (f.grammatical, f.level); level = omega arith; means = cc (f.means, k.0); yields = ap (λ (us : List TokenKind). kind.Minus ∷ us) f.yields; brackets = f.brackets; small = k.1 }

size : (m b : ℕ) (ts inner : List TokenKind) (y : Expression × List TokenKind) (e : Expression) → ts ≡ kind.Open ∷ inner → Closed m b inner y → kept (AbsExpr y.0) ≡ Some e → Spells m 3 b (kind.Abs ∷ ts) (e, y.1)
size m b ts inner y e opened c h =
    let k = kept_is (AbsExpr y.0) e h in
    let f = c.sum in
    record { tree = AbsTree f.tree; grammatical = f.grammatical; level = omega arith; means = cc (f.means, k.0); yields = ap (λ (us : List TokenKind). kind.Abs ∷ us) (ap (λ (us : List TokenKind). kind.Open ∷ us) (with_close (kinds_of f.tree) y.1 c.after inner f.yields c.close) ∙ sym opened); brackets = omega (arith, c.some, f.brackets); small = k.1 }

table : (m b : ℕ) (ts inner after rest : List TokenKind) (a e : Expression) (points : List (ℤ × ℤ)) → ts ≡ kind.Open ∷ inner → Within m b inner (a, after) → (flat_map point_kinds points ++ kind.Close ∷ rest ≡ after) × IsCurve points → kept (LutExpr a points) ≡ Some e
    → Spells m 3 b (kind.Lut ∷ ts) (e, rest)
table m b ts inner after rest a e points opened i t h =
    let k = kept_is (LutExpr a points) e h in
    let f = i.sum in
    record { tree = LutTree f.tree points; grammatical = (f.grammatical, t.1); level = omega arith; means = cc (f.means, k.0); yields = table_spelled (kinds_of f.tree) (flat_map point_kinds points) rest inner after ts t.0 f.yields opened; brackets = omega (arith, i.some, f.brackets); small = k.1 }

-- an expression that is kept, with the tokens after it
kept_with : (m b : ℕ) (ts rest : List TokenKind) (a : Expression) (y : Expression × List TokenKind) → (kept a >>= λ c. Some (c, rest)) ≡ Some y → ((c : Expression) → kept a ≡ Some c → Spells m 3 b ts (c, rest)) → Spells m 3 b ts y
kept_with m b ts rest a y e spells =
    then_some (Spells m 3 b ts y) (kept a) (λ c. Some (c, rest)) y e (λ c h all.
    (let q : ◌≡◌ {A = Expression × List TokenKind} (c, rest) y = cc all in
    subst (Spells m 3 b ts) q (spells c h)))

factor_sound : (m b : ℕ) (r : Ask → Read) (ts : List TokenKind) (y : Expression × List TokenKind) → IsSound m r → factor_of m r b ts ≡ Some y → Spells m 3 b ts y
unfolding factor_of
factor_sound m b r (kind.Number k ∷ ts) y s e =
    then_some (Spells m 3 b (kind.Number k ∷ ts) y) (literal_at (kind.Number k ∷ ts)) (λ x. Some (NumExpr (pos x.0), x.1)) y e (λ x number all.
    (let q : ◌≡◌ {A = Expression × List TokenKind} (NumExpr (pos x.0), x.1) y = cc all in
    let t = literal_takes (kind.Number k ∷ ts) x number in
    subst (Spells m 3 b (kind.Number k ∷ ts)) q (record { tree = NumTree x.0; grammatical = t.1; level = omega arith; means = refl; yields = sym t.0; brackets = omega arith; small = leaf_small (NumExpr (pos x.0)) refl refl })))
factor_sound m b r (kind.Variable i ∷ ts) y s e =
    let p = when_some (ltb i m) (VarExpr i, ts) y e in
    subst (Spells m 3 b (kind.Variable i ∷ ts)) p.1 (record { tree = VarTree i; grammatical = ltb-true _ _ p.0; level = omega arith; means = refl; yields = refl; brackets = omega arith; small = leaf_small (VarExpr i) refl refl })
factor_sound m b r (kind.Minus ∷ ts) y s e =
    then_some (Spells m 3 b (kind.Minus ∷ ts) y) (r (Signed b ts)) (λ a. kept (NegExpr a.0) >>= λ c. Some (c, a.1)) y e (λ a signed rest.
    kept_with m b (kind.Minus ∷ ts) a.1 (NegExpr a.0) y rest (λ c h. negated m b ts a.1 a.0 c (s (Signed b ts) a signed) h))
factor_sound m b r (kind.Open ∷ ts) y s e =
    let c = closed_sound m b r ts y s e in
    let f = c.sum in
    record { tree = ParenTree f.tree; grammatical = f.grammatical; level = omega arith; means = f.means; yields = ap (λ (us : List TokenKind). kind.Open ∷ us) (with_close (kinds_of f.tree) y.1 c.after ts f.yields c.close); brackets = omega (arith, c.some, f.brackets); small = f.small }
factor_sound m b r (kind.Min ∷ ts) y s e =
    then_some (Spells m 3 b (kind.Min ∷ ts) y) (pair_of r b ts) (λ x. kept (MinExpr x.0 x.1) >>= λ c. Some (c, x.2)) y e (λ x pair rest.
    kept_with m b (kind.Min ∷ ts) x.2 (MinExpr x.0 x.1) y rest (λ c h. least m b ts x c (pair_sound m b r ts x s pair) h))
factor_sound m b r (kind.Max ∷ ts) y s e =
    then_some (Spells m 3 b (kind.Max ∷ ts) y) (pair_of r b ts) (λ x. kept (MaxExpr x.0 x.1) >>= λ c. Some (c, x.2)) y e (λ x pair rest.
    kept_with m b (kind.Max ∷ ts) x.2 (MaxExpr x.0 x.1) y rest (λ c h. greatest m b ts x c (pair_sound m b r ts x s pair) h))
factor_sound m b r (kind.Abs ∷ ts) y s e =
    then_some (Spells m 3 b (kind.Abs ∷ ts) y) (after_open ts) (λ o. bracketed r b o >>= λ a. kept (AbsExpr a.0) >>= λ c. Some (c, a.1)) y e (λ o opened behind.
    then_some (Spells m 3 b (kind.Abs ∷ ts) y) (bracketed r b o) (λ a. kept (AbsExpr a.0) >>= λ c. Some (c, a.1)) y behind (λ a closed rest.
    kept_with m b (kind.Abs ∷ ts) a.1 (AbsExpr a.0) y rest (λ c h. size m b ts o a c (open_takes ts o opened) (closed_sound m b r o a s closed) h)))
factor_sound m b r (kind.Lut ∷ ts) y s e =
    then_some (Spells m 3 b (kind.Lut ∷ ts) y) (after_open ts) (λ o. r (Inside b o) >>= λ a. curve_at a.1 >>= λ p. kept (LutExpr a.0 p.0) >>= λ c. Some (c, p.1)) y e (λ o opened e1.
    then_some (Spells m 3 b (kind.Lut ∷ ts) y) (r (Inside b o)) (λ a. curve_at a.1 >>= λ p. kept (LutExpr a.0 p.0) >>= λ c. Some (c, p.1)) y e1 (λ a inside e2.
    then_some (Spells m 3 b (kind.Lut ∷ ts) y) (curve_at a.1) (λ p. kept (LutExpr a.0 p.0) >>= λ c. Some (c, p.1)) y e2 (λ p points rest.
    kept_with m b (kind.Lut ∷ ts) p.1 (LutExpr a.0 p.0) y rest (λ c h. table m b ts o a.1 p.1 a.0 c p.0 (open_takes ts o opened) (s (Inside b o) a inside) (curve_takes a.1 p points) h))))
factor_sound m b r ts y s e = absurd cc

-- ---- terms and sums

after_term_sound : (m b : ℕ) (r : Ask → Read) (a : Expression) (ts : List TokenKind) (y : Expression × List TokenKind) → IsSound m r → after_term m r b a ts ≡ Some y → (start : List TokenKind) → Spells m 2 b start (a, ts) → Spells m 2 b start y
unfolding after_term
after_term_sound m b r a (kind.Star ∷ ts) y s e start p =
    then_some (Spells m 2 b start y) (factor_of m r b ts) (λ x. kept (MulExpr a x.0) >>= λ c. r (RestOfTerm b c x.1)) y e (λ x factor behind.
    then_some (Spells m 2 b start y) (kept (MulExpr a x.0)) (λ c. r (RestOfTerm b c x.1)) y behind (λ c h rest.
    s (RestOfTerm b c x.1) y rest start (times m b start ts x.1 a x.0 c p (factor_sound m b r ts x s factor) h)))
after_term_sound m b r a (kind.Slash ∷ ts) y s e start p =
    then_some (Spells m 2 b start y) (divisor_at ts) (λ x. kept (DivExpr a (pos x.0)) >>= λ c. r (RestOfTerm b c x.1)) y e (λ x divisor behind.
    then_some (Spells m 2 b start y) (kept (DivExpr a (pos x.0))) (λ c. r (RestOfTerm b c x.1)) y behind (λ c h rest.
    s (RestOfTerm b c x.1) y rest start (over m b x.0 start ts x.1 a c p (divisor_takes ts x divisor) h)))
after_term_sound m b r a ts y s e start p = let q : ◌≡◌ {A = Expression × List TokenKind} (a, ts) y = cc in subst (Spells m 2 b start) q p

term_sound : (m b : ℕ) (r : Ask → Read) (ts : List TokenKind) (y : Expression × List TokenKind) → IsSound m r → term_of m r b ts ≡ Some y → Spells m 2 b ts y
unfolding term_of
term_sound m b r ts y s e =
    then_some (Spells m 2 b ts y) (factor_of m r b ts) (λ a. after_term m r b a.0 a.1) y e (λ a factor behind.
    after_term_sound m b r a.0 a.1 y s behind ts (lowered m 2 3 b ts a (omega arith) (factor_sound m b r ts a s factor)))

after_sum_sound : (m b : ℕ) (r : Ask → Read) (a : Expression) (ts : List TokenKind) (y : Expression × List TokenKind) → IsSound m r → after_sum m r b a ts ≡ Some y → (start : List TokenKind) → Spells m 1 b start (a, ts) → Spells m 1 b start y
unfolding after_sum
after_sum_sound m b r a (kind.Plus ∷ ts) y s e start p =
    then_some (Spells m 1 b start y) (term_of m r b ts) (λ x. kept (AddExpr a x.0) >>= λ c. r (RestOfSum b c x.1)) y e (λ x term behind.
    then_some (Spells m 1 b start y) (kept (AddExpr a x.0)) (λ c. r (RestOfSum b c x.1)) y behind (λ c h rest.
    s (RestOfSum b c x.1) y rest start (plus m b start ts x.1 a x.0 c p (term_sound m b r ts x s term) h)))
after_sum_sound m b r a (kind.Minus ∷ ts) y s e start p =
    then_some (Spells m 1 b start y) (term_of m r b ts) (λ x. kept (SubExpr a x.0) >>= λ c. r (RestOfSum b c x.1)) y e (λ x term behind.
    then_some (Spells m 1 b start y) (kept (SubExpr a x.0)) (λ c. r (RestOfSum b c x.1)) y behind (λ c h rest.
    s (RestOfSum b c x.1) y rest start (less m b start ts x.1 a x.0 c p (term_sound m b r ts x s term) h)))
after_sum_sound m b r a ts y s e start p = let q : ◌≡◌ {A = Expression × List TokenKind} (a, ts) y = cc in subst (Spells m 1 b start) q p

sum_sound : (m b : ℕ) (r : Ask → Read) (ts : List TokenKind) (y : Expression × List TokenKind) → IsSound m r → sum_of m r b ts ≡ Some y → Spells m 1 b ts y
unfolding sum_of
sum_sound m b r ts y s e =
    then_some (Spells m 1 b ts y) (term_of m r b ts) (λ a. after_sum m r b a.0 a.1) y e (λ a term behind.
    after_sum_sound m b r a.0 a.1 y s behind ts (lowered m 1 2 b ts a (omega arith) (term_sound m b r ts a s term)))

-- ---- all

step_sound : (m : ℕ) (r : Ask → Read) → IsSound m r → IsSound m (step m r)
unfolding step
step_sound m r s (Inside b ts) y e =
    let n = past_none (eqb b 0) (sum_of m r (b - 1) ts) y e in
    record { some = positive b n.0; sum = sum_sound m (b - 1) r ts y s n.1 }
step_sound m r s (Signed b ts) y e = factor_sound m b r ts y s e
step_sound m r s (RestOfSum b a ts) y e = after_sum_sound m b r a ts y s e
step_sound m r s (RestOfTerm b a ts) y e = after_term_sound m b r a ts y s e

read_sound : (m n : ℕ) → IsSound m (read_at m n)
unfolding read_at
read_sound m zero q y e = absurd cc
read_sound m (suc n) q y e = step_sound m (read_at m n) (read_sound m n) q y e

-- what is read as a whole is spelled so
pub whole_takes : (m : ℕ) (ts : List TokenKind) (e : Expression) → whole m ts ≡ Some e → AreKindsOf m ts e
unfolding whole
whole_takes m ts e h =
    then_some (AreKindsOf m ts e) (sum_of m (read_at m 320) 64 ts) (λ x. cond (eqb (length x.1) 0) (Some x.0) None) e h (λ x sum test.
    (let p = when_some (eqb (length x.1) 0) x.0 e test in
    let f = sum_sound m 64 (read_at m 320) ts x (read_sound m 320) sum in
    let nothing : x.1 ≡ [] = nil_from_length x.1 (eqb-true _ _ p.0) in
    let all : kinds_of f.tree ≡ ts = sym (append-nil (kinds_of f.tree)) ∙ ap (λ (us : List TokenKind). kinds_of f.tree ++ us) (sym nothing) ∙ f.yields in
    subst (AreKindsOf m ts) p.1 (record { syntax_tree = f.tree; grammatical = f.grammatical; yields = all; means = f.means; nodes = (f.small).nodes; depth = (f.small).depth; brackets = f.brackets })))
