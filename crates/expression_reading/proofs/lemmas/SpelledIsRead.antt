-- What a grammatical tree within the limits spells is read as its meaning.
use Rattle.std.proofs.Common.{◌≡◌, ℕ, suc, ◌+◌, ◌-◌, ◌^◌, ◌<◌, ◌≤◌, true, false, eqb, leb, ltb, List, [], ◌∷◌, ◌++◌, Some, refl, ap, ◌∙◌, append_assoc, arith}
use Rattle.std.specs.Prelude.{ℤ, pos, max}
use Rattle.std.specs.List.{flat_map}
use Rattle.std.proofs.lemmas.List.{append-nil}
use Rattle.std.proofs.lemmas.Bool.{le-leb, lt-ltb, ne_eqb}
use Rattle.expression_reading.specs.declared.token_kind.TokenKind.{TokenKind}
use Rattle.expression_reading.specs.declared.token_kind.TokenKind.TheVariants as kind
use Rattle.fixed_expr.specs.Curves.{IsCurve}
use Rattle.fixed_expr.specs.Expression.{Expression, NumExpr, VarExpr, NegExpr, AddExpr, SubExpr, MulExpr, DivExpr, MinExpr, MaxExpr, AbsExpr, LutExpr, nodes_of, depth_of}
use Rattle.expression_reading.specs.SyntaxTrees.{Syntax, NumTree, VarTree, NegTree, AddTree, SubTree, MulTree, DivTree, MinTree, MaxTree, AbsTree, LutTree, ParenTree, level_of, IsGrammatical, meaning_of, brackets_of}
use Rattle.expression_reading.specs.KindTrees.{point_kinds, kinds_of, AreKindsOf}
use Rattle.expression_reading.specs.inside.ExpressionReading.{IsSmall, kept, Ask, Inside, Signed, RestOfSum, RestOfTerm, Read, sum_of, after_sum, term_of, after_term, bracketed, pair_of, factor_of, step, read_at, whole}
use Rattle.expression_reading.proofs.lemmas.CurvePoints.{literal_again, divisor_again, curve_again}
use Rattle.expression_reading.proofs.lemmas.ReadingSteps.{read_more}

kept_small : (e : Expression) → IsSmall e → kept e ≡ Some e
kept_small e s =
    let n : leb (nodes_of e) 256 ≡ true = le-leb _ _ s.nodes in
    let d : leb (depth_of e) 64 ≡ true = le-leb _ _ s.depth in
    rw (n, d) refl

-- the first token is no operator of this level or a higher one
abbrev pub Stops : ℕ → List TokenKind → Type 0
Stops l (kind.Plus ∷ ts) = 2 ≤ l
Stops l (kind.Minus ∷ ts) = 2 ≤ l
Stops l (kind.Star ∷ ts) = 3 ≤ l
Stops l (kind.Slash ∷ ts) = 3 ≤ l
Stops l ts = Unit {0}

sum_stops : (m b : ℕ) (r : Ask → Read) (a : Expression) (ts : List TokenKind) → Stops 1 ts → after_sum m r b a ts ≡ Some (a, ts)
unfolding after_sum
sum_stops m b r a (kind.Plus ∷ ts) h = absurd (omega arith)
sum_stops m b r a (kind.Minus ∷ ts) h = absurd (omega arith)
sum_stops m b r a ts h = refl

term_stops : (m b : ℕ) (r : Ask → Read) (a : Expression) (ts : List TokenKind) → Stops 2 ts → after_term m r b a ts ≡ Some (a, ts)
unfolding after_term
term_stops m b r a (kind.Star ∷ ts) h = absurd (omega arith)
term_stops m b r a (kind.Slash ∷ ts) h = absurd (omega arith)
term_stops m b r a ts h = refl

points_stop : (l : ℕ) (points : List (ℤ × ℤ)) (rest : List TokenKind) → Stops l (flat_map point_kinds points ++ kind.Close ∷ rest)
points_stop l [] rest = tt
points_stop l (p ∷ points) rest = tt

-- ---- with a nested call for each node and each open bracket a tree's tokens are read, and reading goes on after them

abbrev TakesFactor : ℕ → Syntax → Type 0
TakesFactor m t = (b n : ℕ) (rest : List TokenKind) → brackets_of t ≤ b → nodes_of (meaning_of t) + brackets_of t ≤ n → factor_of m (read_at m n) b (kinds_of t ++ rest) ≡ Some (meaning_of t, rest)

abbrev TakesTerm : ℕ → Syntax → Type 0
TakesTerm m t = (b g n : ℕ) (rest : List TokenKind) (y : Expression × List TokenKind) → brackets_of t ≤ b → ((k : ℕ) → g ≤ k → after_term m (read_at m k) b (meaning_of t) rest ≡ Some y)
    → g + nodes_of (meaning_of t) ≤ n → nodes_of (meaning_of t) + brackets_of t ≤ n → term_of m (read_at m n) b (kinds_of t ++ rest) ≡ Some y

abbrev TakesSum : ℕ → Syntax → Type 0
TakesSum m t = (b g n : ℕ) (rest : List TokenKind) (y : Expression × List TokenKind) → Stops 2 rest → brackets_of t ≤ b → ((k : ℕ) → g ≤ k → after_sum m (read_at m k) b (meaning_of t) rest ≡ Some y)
    → g + nodes_of (meaning_of t) ≤ n → nodes_of (meaning_of t) + brackets_of t ≤ n → sum_of m (read_at m n) b (kinds_of t ++ rest) ≡ Some y

record Taken (m : ℕ) (t : Syntax) : Type 0 where
  factor : 3 ≤ level_of t → TakesFactor m t
  term : 2 ≤ level_of t → TakesTerm m t
  sum : TakesSum m t

term_from_factor : (m : ℕ) (t : Syntax) → TakesFactor m t → TakesTerm m t
unfolding term_of
term_from_factor m t f b g n rest y br h cost need = rw (f b n rest br need) (h n (omega arith))

sum_from_term : (m : ℕ) (t : Syntax) → TakesTerm m t → TakesSum m t
unfolding sum_of
sum_from_term m t f b g n rest y stops br h cost need =
    rw (f b 0 n rest (meaning_of t, rest) br (λ k le. term_stops m b (read_at m k) (meaning_of t) rest stops) (omega arith) need) (h n (omega arith))

of_factor : (m : ℕ) (t : Syntax) → TakesFactor m t → Taken m t
of_factor m t f = record { factor = λ le. f; term = λ le. term_from_factor m t f; sum = sum_from_term m t (term_from_factor m t f) }

of_term : (m : ℕ) (t : Syntax) → level_of t ≡ 2 → TakesTerm m t → Taken m t
of_term m t l f = record { factor = λ le. absurd (omega arith); term = λ le. f; sum = sum_from_term m t f }

of_sum : (m : ℕ) (t : Syntax) → level_of t ≡ 1 → TakesSum m t → Taken m t
of_sum m t l f = record { factor = λ le. absurd (omega arith); term = λ le. absurd (omega arith); sum = f }

-- ---- factors

minus_takes : (m : ℕ) (a : Syntax) → TakesFactor m a → IsSmall (NegExpr (meaning_of a)) → TakesFactor m (NegTree a)
unfolding factor_of step
minus_takes m a f s b n rest br need =
    let below : read_at m n (Signed b (kinds_of a ++ rest)) ≡ Some (meaning_of a, rest) = read_more m n (Signed b (kinds_of a ++ rest)) (omega arith) ∙ f b (n - 1) rest br (omega arith) in
    rw (below, kept_small (NegExpr (meaning_of a)) s) refl

inside_takes : (m : ℕ) (a : Syntax) (b n : ℕ) (rest : List TokenKind) → TakesSum m a → Stops 1 rest → Stops 2 rest → suc (brackets_of a) ≤ b → suc (nodes_of (meaning_of a) + brackets_of a) ≤ n → read_at m n (Inside b (kinds_of a ++ rest)) ≡ Some (meaning_of a, rest)
unfolding step
inside_takes m a b n rest f s1 s2 br need =
    let opened : eqb b 0 ≡ false = ne_eqb b 0 (λ e. omega arith) in
    read_more m n (Inside b (kinds_of a ++ rest)) (omega arith)
    ∙ rw opened (f (b - 1) 0 (n - 1) rest (meaning_of a, rest) s2 (omega arith) (λ k le. sum_stops m (b - 1) (read_at m k) (meaning_of a) rest s1) (omega arith) (omega arith))

closed_takes : (m : ℕ) (a : Syntax) (b n : ℕ) (rest : List TokenKind) → TakesSum m a → suc (brackets_of a) ≤ b → suc (nodes_of (meaning_of a) + brackets_of a) ≤ n → bracketed (read_at m n) b ((kinds_of a ++ kind.Close ∷ []) ++ rest) ≡ Some (meaning_of a, rest)
unfolding bracketed
closed_takes m a b n rest f br need = rw (append_assoc (kinds_of a) (kind.Close ∷ []) rest, inside_takes m a b n (kind.Close ∷ rest) f tt tt br need) refl

pair_takes : (m : ℕ) (a c : Syntax) (b n : ℕ) (rest : List TokenKind) → TakesSum m a → TakesSum m c → suc (max (brackets_of a) (brackets_of c)) ≤ b → suc (nodes_of (meaning_of a) + nodes_of (meaning_of c)) + suc (max (brackets_of a) (brackets_of c)) ≤ n
    → pair_of (read_at m n) b (kind.Open ∷ ((kinds_of a ++ kind.Comma ∷ (kinds_of c ++ kind.Close ∷ [])) ++ rest)) ≡ Some (meaning_of a, meaning_of c, rest)
unfolding pair_of
pair_takes m a c b n rest f g br need =
    let tail = (kinds_of c ++ kind.Close ∷ []) ++ rest in
    rw (append_assoc (kinds_of a) (kind.Comma ∷ (kinds_of c ++ kind.Close ∷ [])) rest, inside_takes m a b n (kind.Comma ∷ tail) f tt tt (omega arith) (omega arith), closed_takes m c b n rest g (omega arith) (omega arith)) refl

least_takes : (m : ℕ) (a c : Syntax) → TakesSum m a → TakesSum m c → IsSmall (MinExpr (meaning_of a) (meaning_of c)) → TakesFactor m (MinTree a c)
unfolding factor_of
least_takes m a c f g s b n rest br need = rw (pair_takes m a c b n rest f g br need, kept_small (MinExpr (meaning_of a) (meaning_of c)) s) refl

greatest_takes : (m : ℕ) (a c : Syntax) → TakesSum m a → TakesSum m c → IsSmall (MaxExpr (meaning_of a) (meaning_of c)) → TakesFactor m (MaxTree a c)
unfolding factor_of
greatest_takes m a c f g s b n rest br need = rw (pair_takes m a c b n rest f g br need, kept_small (MaxExpr (meaning_of a) (meaning_of c)) s) refl

size_takes : (m : ℕ) (a : Syntax) → TakesSum m a → IsSmall (AbsExpr (meaning_of a)) → TakesFactor m (AbsTree a)
unfolding factor_of
size_takes m a f s b n rest br need = rw (closed_takes m a b n rest f br (omega arith), kept_small (AbsExpr (meaning_of a)) s) refl

table_takes : (m : ℕ) (a : Syntax) (points : List (ℤ × ℤ)) → TakesSum m a → IsCurve points → IsSmall (LutExpr (meaning_of a) points) → TakesFactor m (LutTree a points)
unfolding factor_of
table_takes m a points f curve s b n rest br need =
    let tail = flat_map point_kinds points ++ kind.Close ∷ rest in
    let is : (kinds_of a ++ (flat_map point_kinds points ++ kind.Close ∷ [])) ++ rest ≡ kinds_of a ++ tail = append_assoc (kinds_of a) (flat_map point_kinds points ++ kind.Close ∷ []) rest ∙ ap (λ (us : List TokenKind). kinds_of a ++ us) (append_assoc (flat_map point_kinds points) (kind.Close ∷ []) rest) in
    rw (is, inside_takes m a b n tail f (points_stop 1 points rest) (points_stop 2 points rest) br (omega arith), curve_again points rest curve, kept_small (LutExpr (meaning_of a) points) s) refl

-- ---- terms and sums

times_takes : (m : ℕ) (a c : Syntax) → TakesTerm m a → TakesFactor m c → IsSmall (MulExpr (meaning_of a) (meaning_of c)) → TakesTerm m (MulTree a c)
unfolding after_term step
times_takes m a c f g s b e n rest y br h cost need =
    let made = MulExpr (meaning_of a) (meaning_of c) in
    rw (append_assoc (kinds_of a) (kind.Star ∷ kinds_of c) rest)
    (f b (n - nodes_of (meaning_of a)) n (kind.Star ∷ (kinds_of c ++ rest)) y (omega arith)
    (λ k le. rw (g b k rest (omega arith) (omega arith), kept_small made s, read_more m k (RestOfTerm b made rest) (omega arith)) (h (k - 1) (omega arith))) (omega arith) (omega arith))

over_takes : (m : ℕ) (a : Syntax) (i : ℕ) → TakesTerm m a → 1 ≤ i → i < 10 ^ 18 → IsSmall (DivExpr (meaning_of a) (pos i)) → TakesTerm m (DivTree a i)
unfolding after_term step
over_takes m a i f some short s b e n rest y br h cost need =
    let made = DivExpr (meaning_of a) (pos i) in
    rw (append_assoc (kinds_of a) (kind.Slash ∷ kind.Number i ∷ []) rest)
    (f b (n - nodes_of (meaning_of a)) n (kind.Slash ∷ kind.Number i ∷ rest) y br
    (λ k le. rw (divisor_again i rest some short, kept_small made s, read_more m k (RestOfTerm b made rest) (omega arith)) (h (k - 1) (omega arith))) (omega arith) (omega arith))

plus_takes : (m : ℕ) (a c : Syntax) → TakesSum m a → TakesTerm m c → IsSmall (AddExpr (meaning_of a) (meaning_of c)) → TakesSum m (AddTree a c)
unfolding after_sum step
plus_takes m a c f g s b e n rest y stops br h cost need =
    let made = AddExpr (meaning_of a) (meaning_of c) in
    rw (append_assoc (kinds_of a) (kind.Plus ∷ kinds_of c) rest)
    (f b (n - nodes_of (meaning_of a)) n (kind.Plus ∷ (kinds_of c ++ rest)) y (omega arith) (omega arith)
    (λ k le. rw (g b 0 k rest (meaning_of c, rest) (omega arith) (λ j any. term_stops m b (read_at m j) (meaning_of c) rest stops) (omega arith) (omega arith), kept_small made s, read_more m k (RestOfSum b made rest) (omega arith)) (h (k - 1) (omega arith))) (omega arith) (omega arith))

less_takes : (m : ℕ) (a c : Syntax) → TakesSum m a → TakesTerm m c → IsSmall (SubExpr (meaning_of a) (meaning_of c)) → TakesSum m (SubTree a c)
unfolding after_sum step
less_takes m a c f g s b e n rest y stops br h cost need =
    let made = SubExpr (meaning_of a) (meaning_of c) in
    rw (append_assoc (kinds_of a) (kind.Minus ∷ kinds_of c) rest)
    (f b (n - nodes_of (meaning_of a)) n (kind.Minus ∷ (kinds_of c ++ rest)) y (omega arith) (omega arith)
    (λ k le. rw (g b 0 k rest (meaning_of c, rest) (omega arith) (λ j any. term_stops m b (read_at m j) (meaning_of c) rest stops) (omega arith) (omega arith), kept_small made s, read_more m k (RestOfSum b made rest) (omega arith)) (h (k - 1) (omega arith))) (omega arith) (omega arith))

-- ---- all trees

smaller : (a e : Expression) → nodes_of a ≤ nodes_of e → depth_of a ≤ depth_of e → IsSmall e → IsSmall a
smaller a e n d s = record { nodes = omega (arith, s.nodes); depth = omega (arith, s.depth) }

leaf_takes : (m k : ℕ) → k < 10 ^ 18 → TakesFactor m (NumTree k)
unfolding factor_of
leaf_takes m k lt b n rest br need = rw (literal_again k rest lt) refl

name_takes : (m i : ℕ) → i < m → TakesFactor m (VarTree i)
unfolding factor_of
name_takes m i lt b n rest br need =
    let test : ltb i m ≡ true = lt-ltb _ _ lt in
    rw test refl

brackets_take : (m : ℕ) (a : Syntax) → 1 ≤ nodes_of (meaning_of a) → TakesSum m a → TakesFactor m (ParenTree a)
unfolding factor_of
brackets_take m a some f b n rest br need = closed_takes m a b n rest f br (omega arith)

some_nodes : (e : Expression) → 1 ≤ nodes_of e
some_nodes (NumExpr k) = omega arith
some_nodes (VarExpr i) = omega arith
some_nodes e = omega arith

taken : (m : ℕ) (t : Syntax) → IsGrammatical m t → IsSmall (meaning_of t) → Taken m t
taken m (NumTree k) g s = of_factor m (NumTree k) (leaf_takes m k g)
taken m (VarTree i) g s = of_factor m (VarTree i) (name_takes m i g)
taken m (NegTree a) g s =
    let f = taken m a g.0 (smaller (meaning_of a) (meaning_of (NegTree a)) (omega arith) (omega arith) s) in
    of_factor m (NegTree a) (minus_takes m a (f.factor g.1) s)
taken m (AddTree a c) g s =
    let f = taken m a g.0 (smaller (meaning_of a) (meaning_of (AddTree a c)) (omega arith) (omega arith) s) in
    let h = taken m c g.1 (smaller (meaning_of c) (meaning_of (AddTree a c)) (omega arith) (omega arith) s) in
    of_sum m (AddTree a c) refl (plus_takes m a c f.sum (h.term g.2) s)
taken m (SubTree a c) g s =
    let f = taken m a g.0 (smaller (meaning_of a) (meaning_of (SubTree a c)) (omega arith) (omega arith) s) in
    let h = taken m c g.1 (smaller (meaning_of c) (meaning_of (SubTree a c)) (omega arith) (omega arith) s) in
    of_sum m (SubTree a c) refl (less_takes m a c f.sum (h.term g.2) s)
taken m (MulTree a c) g s =
    let f = taken m a g.0 (smaller (meaning_of a) (meaning_of (MulTree a c)) (omega arith) (omega arith) s) in
    let h = taken m c g.2 (smaller (meaning_of c) (meaning_of (MulTree a c)) (omega arith) (omega arith) s) in
    of_term m (MulTree a c) refl (times_takes m a c (f.term g.1) (h.factor g.3) s)
taken m (DivTree a k) g s =
    let f = taken m a g.0 (smaller (meaning_of a) (meaning_of (DivTree a k)) (omega arith) (omega arith) s) in
    of_term m (DivTree a k) refl (over_takes m a k (f.term g.1) g.2 g.3 s)
taken m (MinTree a c) g s =
    let f = taken m a g.0 (smaller (meaning_of a) (meaning_of (MinTree a c)) (omega arith) (omega arith) s) in
    let h = taken m c g.1 (smaller (meaning_of c) (meaning_of (MinTree a c)) (omega arith) (omega arith) s) in
    of_factor m (MinTree a c) (least_takes m a c f.sum h.sum s)
taken m (MaxTree a c) g s =
    let f = taken m a g.0 (smaller (meaning_of a) (meaning_of (MaxTree a c)) (omega arith) (omega arith) s) in
    let h = taken m c g.1 (smaller (meaning_of c) (meaning_of (MaxTree a c)) (omega arith) (omega arith) s) in
    of_factor m (MaxTree a c) (greatest_takes m a c f.sum h.sum s)
taken m (AbsTree a) g s =
    let f = taken m a g (smaller (meaning_of a) (meaning_of (AbsTree a)) (omega arith) (omega arith) s) in
    of_factor m (AbsTree a) (size_takes m a f.sum s)
taken m (LutTree a points) g s =
    let f = taken m a g.0 (smaller (meaning_of a) (meaning_of (LutTree a points)) (omega arith) (omega arith) s) in
    of_factor m (LutTree a points) (table_takes m a points f.sum g.1 s)
taken m (ParenTree a) g s =
    let f = taken m a g s in
    of_factor m (ParenTree a) (brackets_take m a (some_nodes (meaning_of a)) f.sum)

-- what is spelled so is read as a whole
pub whole_again : (m : ℕ) (ts : List TokenKind) (e : Expression) → AreKindsOf m ts e → whole m ts ≡ Some e
unfolding whole
whole_again m ts e h =
    let t = h.syntax_tree in
    let small : IsSmall (meaning_of t) = rw h.means (record { nodes = h.nodes; depth = h.depth }) in
    let nodes : nodes_of (meaning_of t) ≤ 256 = small.nodes in
    let f = taken m t h.grammatical small in
    let read : sum_of m (read_at m 320) 64 (kinds_of t ++ []) ≡ Some (meaning_of t, []) = f.sum 64 0 320 [] (meaning_of t, []) tt h.brackets (λ k le. sum_stops m 64 (read_at m k) (meaning_of t) [] tt) (omega arith) (omega (arith, h.brackets)) in
    let all : kinds_of t ++ [] ≡ ts = append-nil (kinds_of t) ∙ h.yields in
    rw (← all, read) (ap (λ (x : Expression). Some x) h.means)
