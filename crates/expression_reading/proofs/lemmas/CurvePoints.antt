-- Points that are read are spelled so, and what is spelled so is read.
use Rattle.std.proofs.Common.{◌≡◌, ℕ, zero, suc, ◌^◌, ◌<◌, ◌≤◌, true, false, cond, eqb, leb, ltb, List, [], ◌∷◌, ◌++◌, length, Some, None, refl, sym, ap, subst, ◌∙◌, append_assoc, arith, ◌&&◌}
use Rattle.std.specs.Prelude.{ℤ, pos, negsuc, neg_ℤ, nat_abs, All}
use Rattle.std.specs.List.{flat_map}
use Rattle.std.proofs.lemmas.List.{append-nil}
use Rattle.std.proofs.lemmas.Bool.{and_parts, leb-true, le-leb, ltb-true, lt-ltb, ne_eqb}
use Rattle.std.proofs.lemmas.List.Elements.{All-head, All-tail, All-nil, All-cons}
use Rattle.expression_reading.specs.declared.token_kind.TokenKind.{TokenKind}
use Rattle.expression_reading.specs.declared.token_kind.TokenKind.TheVariants as kind
use Rattle.fixed_expr.specs.Curves.{IsCurve, IsShort}
use Rattle.expression_reading.specs.KindTrees.{signed_kinds, point_kinds}
use Rattle.expression_reading.specs.inside.ExpressionReading.{◌>>=◌, after_colon, literal_at, divisor_at, signed_at, point_at, points_at, rises, curve_at}
use Rattle.expression_reading.proofs.lemmas.ReadParts.{then_some, when_some, unless_some, positive}
use Rattle.expression_reading.proofs.lemmas.RisingPoints.{rise, curve_rises}

-- ---- numbers

pub literal_takes : (ts : List TokenKind) (x : ℕ × List TokenKind) → literal_at ts ≡ Some x → (ts ≡ kind.Number x.0 ∷ x.1) × (x.0 < 10 ^ 18)
unfolding literal_at
literal_takes (kind.Number k ∷ ts) x e =
    let p = when_some (ltb k (10 ^ 18)) (k, ts) x e in
    subst (λ (y : ℕ × List TokenKind). (kind.Number k ∷ ts ≡ kind.Number y.0 ∷ y.1) × (y.0 < 10 ^ 18)) p.1 (refl, ltb-true _ _ p.0)
literal_takes ts x e = absurd cc

pub literal_again : (k : ℕ) (ts : List TokenKind) → k < 10 ^ 18 → literal_at (kind.Number k ∷ ts) ≡ Some (k, ts)
unfolding literal_at
literal_again k ts lt =
    let small : ltb k (10 ^ 18) ≡ true = lt-ltb _ _ lt in
    rw small refl

pub divisor_takes : (ts : List TokenKind) (x : ℕ × List TokenKind) → divisor_at ts ≡ Some x → (ts ≡ kind.Number x.0 ∷ x.1) × (1 ≤ x.0) × (x.0 < 10 ^ 18)
unfolding divisor_at
divisor_takes ts x e =
    then_some ((ts ≡ kind.Number x.0 ∷ x.1) × (1 ≤ x.0) × (x.0 < 10 ^ 18)) (literal_at ts) (λ k. cond (eqb k.0 0) None (Some k)) x e (λ k taken rest.
    (let n = unless_some (eqb k.0 0) k x rest in
    let t = literal_takes ts k taken in
    subst (λ (y : ℕ × List TokenKind). (ts ≡ kind.Number y.0 ∷ y.1) × (1 ≤ y.0) × (y.0 < 10 ^ 18)) n.1 (t.0, positive k.0 n.0, t.1)))

pub divisor_again : (k : ℕ) (ts : List TokenKind) → 1 ≤ k → k < 10 ^ 18 → divisor_at (kind.Number k ∷ ts) ≡ Some (k, ts)
unfolding divisor_at
divisor_again k ts le lt =
    let no : eqb k 0 ≡ false = ne_eqb k 0 (λ e. omega arith) in
    rw (literal_again k ts lt, no) refl

negative : (k : ℕ) (ts : List TokenKind) → 1 ≤ k → k < 10 ^ 18 → (kind.Minus ∷ kind.Number k ∷ ts ≡ signed_kinds (neg_ℤ (pos k)) ++ ts) × (nat_abs (neg_ℤ (pos k)) < 10 ^ 18)
negative zero ts le lt = absurd (omega arith)
negative (suc k) ts le lt = (refl, lt)

unsigned : (ts : List TokenKind) (x : ℤ × List TokenKind) → (literal_at ts >>= λ k. Some (pos k.0, k.1)) ≡ Some x → (ts ≡ signed_kinds x.0 ++ x.1) × (nat_abs x.0 < 10 ^ 18)
unsigned ts x e =
    then_some ((ts ≡ signed_kinds x.0 ++ x.1) × (nat_abs x.0 < 10 ^ 18)) (literal_at ts) (λ k. Some (pos k.0, k.1)) x e (λ k taken rest.
    (let q : ◌≡◌ {A = ℤ × List TokenKind} (pos k.0, k.1) x = cc rest in
    let t = literal_takes ts k taken in
    subst (λ (y : ℤ × List TokenKind). (ts ≡ signed_kinds y.0 ++ y.1) × (nat_abs y.0 < 10 ^ 18)) q (t.0, t.1)))

pub signed_takes : (ts : List TokenKind) (x : ℤ × List TokenKind) → signed_at ts ≡ Some x → (ts ≡ signed_kinds x.0 ++ x.1) × (nat_abs x.0 < 10 ^ 18)
unfolding signed_at
signed_takes (kind.Minus ∷ ts) x e =
    then_some ((kind.Minus ∷ ts ≡ signed_kinds x.0 ++ x.1) × (nat_abs x.0 < 10 ^ 18)) (divisor_at ts) (λ k. Some (neg_ℤ (pos k.0), k.1)) x e (λ k taken rest.
    (let q : ◌≡◌ {A = ℤ × List TokenKind} (neg_ℤ (pos k.0), k.1) x = cc rest in
    let t = divisor_takes ts k taken in
    let n = negative k.0 k.1 t.1 t.2 in
    subst (λ (y : ℤ × List TokenKind). (kind.Minus ∷ ts ≡ signed_kinds y.0 ++ y.1) × (nat_abs y.0 < 10 ^ 18)) q (ap (λ (us : List TokenKind). kind.Minus ∷ us) t.0 ∙ n.0, n.1)))
signed_takes ts x e = unsigned ts x e

pub signed_again : (z : ℤ) (ts : List TokenKind) → nat_abs z < 10 ^ 18 → signed_at (signed_kinds z ++ ts) ≡ Some (z, ts)
unfolding signed_at
signed_again (pos n) ts lt = rw (literal_again n ts lt) refl
signed_again (negsuc n) ts lt = rw (divisor_again (suc n) ts (omega arith) lt) refl

-- ---- points

-- a point without the comma before it
abbrev pair_kinds : ℤ × ℤ → List TokenKind
pair_kinds p = signed_kinds p.0 ++ kind.Colon ∷ signed_kinds p.1

colon_takes : (ts rest : List TokenKind) → after_colon ts ≡ Some rest → ts ≡ kind.Colon ∷ rest
colon_takes (kind.Colon ∷ ts) rest e = cc
colon_takes ts rest e = absurd cc

-- the tokens of a point's parts, one after another
point_spelled : (a b : ℤ) (ts us vs rest : List TokenKind) → ts ≡ signed_kinds a ++ us → us ≡ kind.Colon ∷ vs → vs ≡ signed_kinds b ++ rest → ts ≡ pair_kinds (a, b) ++ rest
point_spelled a b ts us vs rest first colon second =
    first
    ∙ ap (λ (ws : List TokenKind). signed_kinds a ++ ws) (colon ∙ ap (λ (ws : List TokenKind). kind.Colon ∷ ws) second)
    ∙ sym (append_assoc (signed_kinds a) (kind.Colon ∷ signed_kinds b) rest)

point_takes : (ts : List TokenKind) (x : (ℤ × ℤ) × List TokenKind) → point_at ts ≡ Some x → (ts ≡ pair_kinds x.0 ++ x.1) × IsShort x.0
unfolding point_at
point_takes ts x e =
    then_some ((ts ≡ pair_kinds x.0 ++ x.1) × IsShort x.0) (signed_at ts) (λ a. after_colon a.1 >>= λ us. signed_at us >>= λ b. Some ((a.0, b.0), b.1)) x e (λ a first behind.
    then_some ((ts ≡ pair_kinds x.0 ++ x.1) × IsShort x.0) (after_colon a.1) (λ us. signed_at us >>= λ b. Some ((a.0, b.0), b.1)) x behind (λ us colon rest.
    then_some ((ts ≡ pair_kinds x.0 ++ x.1) × IsShort x.0) (signed_at us) (λ b. Some ((a.0, b.0), b.1)) x rest (λ b second all.
    (let s = signed_takes ts a first in
    let t = signed_takes us b second in
    let q : ◌≡◌ {A = (ℤ × ℤ) × List TokenKind} ((a.0, b.0), b.1) x = cc all in
    subst (λ (r : (ℤ × ℤ) × List TokenKind). (ts ≡ pair_kinds r.0 ++ r.1) × IsShort r.0) q (point_spelled a.0 b.0 ts a.1 us b.1 s.0 (colon_takes a.1 us colon) t.0, (s.1, t.1))))))

point_again : (p : ℤ × ℤ) (rest : List TokenKind) → IsShort p → point_at (pair_kinds p ++ rest) ≡ Some (p, rest)
unfolding point_at
point_again p rest short =
    let all : pair_kinds p ++ rest ≡ signed_kinds p.0 ++ (kind.Colon ∷ (signed_kinds p.1 ++ rest)) = append_assoc (signed_kinds p.0) (kind.Colon ∷ signed_kinds p.1) rest in
    rw (all, signed_again p.0 (kind.Colon ∷ (signed_kinds p.1 ++ rest)) short.0, signed_again p.1 rest short.1) refl

-- Points after others, with the bracket that closes.
record After (n : ℕ) (before : List (ℤ × ℤ)) (ts : List TokenKind) (x : List (ℤ × ℤ) × List TokenKind) : Type 0 where
  more : List (ℤ × ℤ)
  all : before ++ more ≡ x.0
  spelled : flat_map point_kinds more ++ kind.Close ∷ x.1 ≡ ts
  few : length more ≤ n
  short : All IsShort more

-- the tokens of a point and of those after it
more_spelled : (p : ℤ × ℤ) (more : List (ℤ × ℤ)) (ts us rest : List TokenKind) → ts ≡ pair_kinds p ++ us → flat_map point_kinds more ++ kind.Close ∷ rest ≡ us → flat_map point_kinds (p ∷ more) ++ kind.Close ∷ rest ≡ kind.Comma ∷ ts
more_spelled p more ts us rest first others =
    ap (λ (ws : List TokenKind). kind.Comma ∷ ws) (append_assoc (pair_kinds p) (flat_map point_kinds more) (kind.Close ∷ rest) ∙ ap (λ (ws : List TokenKind). pair_kinds p ++ ws) others ∙ sym first)

after_more : (n : ℕ) (before : List (ℤ × ℤ)) (ts : List TokenKind) (x : List (ℤ × ℤ) × List TokenKind) (p : (ℤ × ℤ) × List TokenKind) → (ts ≡ pair_kinds p.0 ++ p.1) × IsShort p.0 → After n (before ++ p.0 ∷ []) p.1 x → After (suc n) before (kind.Comma ∷ ts) x
after_more n before ts x p t l = record {
  more = p.0 ∷ l.more;
  all = sym (append_assoc before (p.0 ∷ []) l.more) ∙ l.all;
  spelled = more_spelled p.0 l.more ts p.1 x.1 t.0 l.spelled;
  few = omega (arith, l.few);
  short = All-cons IsShort p.0 l.more t.1 l.short;
}

points_take : (n : ℕ) (before : List (ℤ × ℤ)) (ts : List TokenKind) (x : List (ℤ × ℤ) × List TokenKind) → points_at n before ts ≡ Some x → After n before ts x
unfolding points_at
points_take n before (kind.Close ∷ ts) x e =
    let q : ◌≡◌ {A = List (ℤ × ℤ) × List TokenKind} (before, ts) x = cc in
    record { more = []; all = append-nil before ∙ ap (λ (y : List (ℤ × ℤ) × List TokenKind). y.0) q; spelled = ap (λ (y : List (ℤ × ℤ) × List TokenKind). kind.Close ∷ y.1) (sym q); few = omega arith; short = All-nil IsShort }
points_take zero before ts x e = absurd cc
points_take (suc n) before (kind.Comma ∷ ts) x e =
    then_some (After (suc n) before (kind.Comma ∷ ts) x) (point_at ts) (λ p. points_at n (before ++ p.0 ∷ []) p.1) x e (λ p taken rest. after_more n before ts x p (point_takes ts p taken) (points_take n (before ++ p.0 ∷ []) p.1 x rest))
points_take (suc n) before ts x e = absurd cc

points_again : (n : ℕ) (before more : List (ℤ × ℤ)) (rest : List TokenKind) → length more ≤ n → All IsShort more → points_at n before (flat_map point_kinds more ++ kind.Close ∷ rest) ≡ Some (before ++ more, rest)
unfolding points_at
points_again n before [] rest few short = ap (λ (ps : List (ℤ × ℤ)). Some (ps, rest)) (sym (append-nil before))
points_again zero before (p ∷ more) rest few short = absurd (omega (arith, few))
points_again (suc n) before (p ∷ more) rest few short =
    let after = flat_map point_kinds more ++ kind.Close ∷ rest in
    let is : flat_map point_kinds (p ∷ more) ++ kind.Close ∷ rest ≡ kind.Comma ∷ (pair_kinds p ++ after) = ap (λ (us : List TokenKind). kind.Comma ∷ us) (append_assoc (pair_kinds p) (flat_map point_kinds more) (kind.Close ∷ rest)) in
    let later : points_at n (before ++ p ∷ []) after ≡ Some ((before ++ p ∷ []) ++ more, rest) = points_again n (before ++ p ∷ []) more rest (omega (arith, few)) (All-tail IsShort p more short) in
    ap (points_at (suc n) before) is ∙ rw (point_again p after (All-head IsShort p more short)) (later ∙ ap (λ (ps : List (ℤ × ℤ)). Some (ps, rest)) (append_assoc before (p ∷ []) more))

curve_of : (ts : List TokenKind) (r : List (ℤ × ℤ) × List TokenKind) → After 32 [] ts r → (leb 2 (length r.0) ≡ true) × (rises r.0 ≡ true) → (flat_map point_kinds r.0 ++ kind.Close ∷ r.1 ≡ ts) × IsCurve r.0
curve_of ts r b tests =
    let all : b.more ≡ r.0 = b.all in (
      subst (λ (ps : List (ℤ × ℤ)). flat_map point_kinds ps ++ kind.Close ∷ r.1 ≡ ts) all b.spelled,
      record { some = leb-true _ _ tests.0; few = rw (← all) b.few; rising = rise r.0 tests.1; short = rw (← all) b.short },
    )

pub curve_takes : (ts : List TokenKind) (x : List (ℤ × ℤ) × List TokenKind) → curve_at ts ≡ Some x → (flat_map point_kinds x.0 ++ kind.Close ∷ x.1 ≡ ts) × IsCurve x.0
unfolding curve_at
curve_takes ts x e =
    then_some ((flat_map point_kinds x.0 ++ kind.Close ∷ x.1 ≡ ts) × IsCurve x.0) (points_at 32 [] ts) (λ r. cond (leb 2 (length r.0) && rises r.0) (Some r) None) x e (λ r taken test.
    (let p = when_some (leb 2 (length r.0) && rises r.0) r x test in
    subst (λ (s : List (ℤ × ℤ) × List TokenKind). (flat_map point_kinds s.0 ++ kind.Close ∷ s.1 ≡ ts) × IsCurve s.0) p.1 (curve_of ts r (points_take 32 [] ts r taken) (and_parts (leb 2 (length r.0)) (rises r.0) p.0))))

pub curve_again : (points : List (ℤ × ℤ)) (rest : List TokenKind) → IsCurve points → curve_at (flat_map point_kinds points ++ kind.Close ∷ rest) ≡ Some (points, rest)
unfolding curve_at
curve_again points rest curve =
    let some : leb 2 (length points) ≡ true = le-leb _ _ curve.some in
    rw (points_again 32 [] points rest curve.few curve.short, some, curve_rises points curve.rising) refl

-- what was read has few points, and they are short
pub few_points : (ts : List TokenKind) (x : List (ℤ × ℤ) × List TokenKind) → points_at 32 [] ts ≡ Some x → length x.0 ≤ 32
few_points ts x e = let b = points_take 32 [] ts x e in let all : b.more ≡ x.0 = b.all in rw (← all) b.few
