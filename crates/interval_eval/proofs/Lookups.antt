-- The values of a curve over a range lie between those at the range's ends and at the points in it.
use Rattle.std.proofs.Common.{◌≡◌, ◌≤◌, List, [], ◌∷◌, length, map, All, Bool, true, false, cond, ◌&&◌, refl, sym, ◌∙◌, subst, arith}
use Rattle.std.specs.Prelude.{ℤ, pos, ◌≤ℤ◌, ◌<ℤ◌, int_le}
use Rattle.std.specs.Int.{int_min, int_max}
use Rattle.std.specs.List.{fold, filter}
use Rattle.std.proofs.lemmas.Bool.{false≢true}
use Rattle.std.proofs.lemmas.Int.{ints, clamps, by_lt_z, fold-int_min_bounds, fold-int_max_bounds}
use Rattle.std.proofs.lemmas.List.Elements.{All-head, All-tail, All-cons, All-nil, All-get_or, All-from_get_or}
use Rattle.fixed_expr.specs.Curves.{RiseFrom, IsCurve, value_along, value_from, curve_value}
use Rattle.fixed_expr.proofs.Laws.{piece_between, at_left, at_right, on_piece, after_piece, before_first}
use Rattle.interval_eval.specs.declared.interval.Interval.{Interval}
use Rattle.interval_eval.specs.Span.{IsInterval, IsIn, is_in, values_within, lut_span}
use Rattle.interval_eval.specs.NestedAreas.{IsPartOf}

-- an interval holds the value of each point in a range
abbrev pub Covers : Interval → Interval → List (ℤ × ℤ) → Type 0
Covers a s [] = Unit {0}
Covers a s (p ∷ points) = (a.lo ≤ℤ p.0 → p.0 ≤ℤ a.hi → IsIn s p.1) × Covers a s points

narrower : (a b s : Interval) (points : List (ℤ × ℤ)) → IsPartOf a b → Covers b s points → Covers a s points
narrower a b s [] part h = tt
narrower a b s (p ∷ points) part h =
    ((λ above below. h.0 (omega (arith, ints, part.0, above)) (omega (arith, ints, part.1, below))), narrower a b s points part h.1)

in_between : (s : Interval) (l h x : ℤ) → IsIn s l → IsIn s h → (int_min l h ≤ℤ x) × (x ≤ℤ int_max l h) → IsIn s x
in_between s l h x p q between = (omega (arith, ints, clamps, p.0, q.0, between.0), omega (arith, ints, clamps, p.1, q.1, between.1))

same_at : (z : ℤ) → z ≤ℤ z
same_at z = omega (arith, ints)

-- where an interval holds the values at the ends of a range and at the points in it, it holds all between
value_in : (points : List (ℤ × ℤ)) (p : ℤ × ℤ) (a s : Interval) (x : ℤ) → RiseFrom p points → IsIn a x → IsIn s (value_from p points a.lo) → IsIn s (value_from p points a.hi) → Covers a s (p ∷ points) → IsIn s (value_from p points x)
value_in [] p a s x rises inside low high covers = low
value_in (q ∷ points) p a s x rises inside low high covers =
    by_lt_z x q.0 before (after (λ b within at_low at_high each. value_in points q b s x rises.1 within at_low at_high each))
  where
    rise : p.0 <ℤ q.0
    rise = rises.0

    outer : x ≤ℤ p.0 → IsIn s (value_from p (q ∷ points) x)
    outer below =
        let first : a.lo ≤ℤ p.0 = omega (arith, ints, inside.0, below) in
        subst (IsIn s) (before_first p (q ∷ points) a.lo first ∙ sym (before_first p (q ∷ points) x below)) low

    left : p.0 <ℤ x → x <ℤ q.0 → (l : ℤ) × (l ≤ℤ x) × IsIn s (value_along p q l)
    left above below =
        by_lt_z a.lo p.0
        (λ out. (p.0, omega (arith, ints, above), subst (IsIn s) (sym (at_left p q rise)) (covers.0 (omega (arith, ints, out)) (omega (arith, ints, above, inside.1)))))
        (λ in'. (a.lo, inside.0, subst (IsIn s) (on_piece p q points a.lo rise in' (omega (arith, ints, inside.0, below))) low))

    right : p.0 <ℤ x → x <ℤ q.0 → (h : ℤ) × (x ≤ℤ h) × IsIn s (value_along p q h)
    right above below =
        by_lt_z a.hi q.0
        (λ in'. (a.hi, inside.1, subst (IsIn s) (on_piece p q points a.hi rise (omega (arith, ints, inside.1, above)) in') high))
        (λ out. (q.0, omega (arith, ints, below), subst (IsIn s) (sym (at_right p q rise)) (covers.1.0 (omega (arith, ints, inside.0, below)) out)))

    inner : p.0 <ℤ x → x <ℤ q.0 → IsIn s (value_from p (q ∷ points) x)
    inner above below =
        let l = left above below in
        let h = right above below in
        subst (IsIn s) (sym (on_piece p q points x rise (omega (arith, ints, above)) below))
        (in_between s (value_along p q l.0) (value_along p q h.0) (value_along p q x) l.2 h.2 (piece_between p q rise l.0 x h.0 l.1 h.1))

    before : x <ℤ q.0 → IsIn s (value_from p (q ∷ points) x)
    before below = by_lt_z p.0 x (λ above. inner above below) outer

    after : ((b : Interval) → IsIn b x → IsIn s (value_from q points b.lo) → IsIn s (value_from q points b.hi) → Covers b s (q ∷ points) → IsIn s (value_from q points x)) → q.0 ≤ℤ x → IsIn s (value_from p (q ∷ points) x)
    after later past =
        let last : q.0 ≤ℤ a.hi = omega (arith, ints, past, inside.1) in
        let at_high : IsIn s (value_from q points a.hi) = subst (IsIn s) (after_piece p q points a.hi rise last) high in
        subst (IsIn s) (sym (after_piece p q points x rise past))
        (by_lt_z a.lo q.0
        (λ out.
        let rest : Interval = record { lo = q.0; hi = a.hi } in
        let here : IsIn s q.1 = covers.1.0 (omega (arith, ints, out)) last in
        let at_low : IsIn s (value_from q points q.0) = subst (IsIn s) (sym (before_first q points q.0 (same_at q.0))) here in
        later rest (past, inside.1) at_low at_high (narrower rest a s (q ∷ points) (omega (arith, ints, out), same_at a.hi) covers.1))
        (λ in'. later a inside (subst (IsIn s) (after_piece p q points a.lo rise in') low) at_high covers.1))

-- ---- the least and the greatest value

outside : (a : Interval) (x : ℤ) (s t : Bool) → int_le a.lo x ≡ s → int_le x a.hi ≡ t → (s && t) ≡ false → a.lo ≤ℤ x → x ≤ℤ a.hi → ⊥
outside a x true true e f none above below = false≢true (sym none)
outside a x true false e f none above below = omega (arith, ints, f, below)
outside a x false t e f none above below = omega (arith, ints, e, above)

within : (a : Interval) (x : ℤ) (s t : Bool) → int_le a.lo x ≡ s → int_le x a.hi ≡ t → (s && t) ≡ true → (a.lo ≤ℤ x) × (x ≤ℤ a.hi)
within a x true true e f both = (omega (arith, ints, e), omega (arith, ints, f))
within a x _ _ e f both = absurd (false≢true both)

covers_from : (a s : Interval) (points : List (ℤ × ℤ)) → All (IsIn s) (values_within points a) → Covers a s points
covers_from a s [] each = tt
covers_from a s (p ∷ points) each = by (λ h. covers_from a s points h) (is_in a p.0) refl each
  where
    by : (All (IsIn s) (values_within points a) → Covers a s points) → (b : Bool) → is_in a p.0 ≡ b → All (IsIn s) (map (λ (q : ℤ × ℤ). q.1) (cond b (p ∷ filter (λ (q : ℤ × ℤ). is_in a q.0) points) (filter (λ (q : ℤ × ℤ). is_in a q.0) points))) → Covers a s (p ∷ points)
    by later true e h = ((λ _ _. All-head (IsIn s) p.1 (values_within points a) h), later (All-tail (IsIn s) p.1 (values_within points a) h))
    by later false e h = ((λ above below. absurd (outside a p.0 (int_le a.lo p.0) (int_le p.0 a.hi) refl refl e above below)), later h)

all_from : (a s : Interval) (points : List (ℤ × ℤ)) → Covers a s points → All (IsIn s) (values_within points a)
all_from a s [] h = All-nil (IsIn s)
all_from a s (p ∷ points) h = by (all_from a s points h.1) (is_in a p.0) refl
  where
    by : All (IsIn s) (values_within points a) → (b : Bool) → is_in a p.0 ≡ b → All (IsIn s) (map (λ (q : ℤ × ℤ). q.1) (cond b (p ∷ filter (λ (q : ℤ × ℤ). is_in a q.0) points) (filter (λ (q : ℤ × ℤ). is_in a q.0) points)))
    by rest true e =
        let here = within a p.0 (int_le a.lo p.0) (int_le p.0 a.hi) refl refl e in
        All-cons (IsIn s) p.1 (values_within points a) (h.0 here.0 here.1) rest
    by rest false e = rest

pub fold_min_in : (s : Interval) (y : ℤ) (ys : List ℤ) → IsIn s y → All (IsIn s) ys → IsIn s (fold int_min y ys)
fold_min_in s y [] here each = here
fold_min_in s y (z ∷ ys) here each =
    let next = All-head (IsIn s) z ys each in
    fold_min_in s (int_min y z) ys (omega (arith, ints, clamps, here.0, next.0), omega (arith, ints, clamps, here.1, next.1)) (All-tail (IsIn s) z ys each)

pub fold_max_in : (s : Interval) (y : ℤ) (ys : List ℤ) → IsIn s y → All (IsIn s) ys → IsIn s (fold int_max y ys)
fold_max_in s y [] here each = here
fold_max_in s y (z ∷ ys) here each =
    let next = All-head (IsIn s) z ys each in
    fold_max_in s (int_max y z) ys (omega (arith, ints, clamps, here.0, next.0), omega (arith, ints, clamps, here.1, next.1)) (All-tail (IsIn s) z ys each)

-- What the span of a curve over a range holds.
record Holds (points : List (ℤ × ℤ)) (a : Interval) : Type 0 where
  pub low : IsIn (lut_span points a) (curve_value points a.lo)
  pub high : IsIn (lut_span points a) (curve_value points a.hi)
  pub each : Covers a (lut_span points a) points

holds : (points : List (ℤ × ℤ)) (a : Interval) → Holds points a
holds points a =
    let s = lut_span points a in
    let ys : List ℤ = curve_value points a.hi ∷ values_within points a in
    let least = fold-int_min_bounds (curve_value points a.lo) ys s.lo refl in
    let most = fold-int_max_bounds (curve_value points a.lo) ys s.hi refl in
    let all : All (IsIn s) ys = All-from_get_or (IsIn s) ys (pos 0) (λ i lt. (All-get_or (λ y. s.lo ≤ℤ y) ys i (pos 0) lt least.1, All-get_or (λ y. y ≤ℤ s.hi) ys i (pos 0) lt most.1)) in
    record {
      low = (least.0, most.0);
      high = All-head (IsIn s) (curve_value points a.hi) (values_within points a) all;
      each = covers_from a s points (All-tail (IsIn s) (curve_value points a.hi) (values_within points a) all);
    }

pub in_lookup : (points : List (ℤ × ℤ)) (a : Interval) (x : ℤ) → IsCurve points → IsIn a x → IsIn (lut_span points a) (curve_value points x)
in_lookup [] a x curve inside = absurd (none curve.some)
  where
    none : 2 ≤ length {A = ℤ × ℤ} [] → ⊥
    none some = omega (arith, some)
in_lookup (p ∷ points) a x curve inside =
    let h = holds (p ∷ points) a in
    value_in points p a (lut_span (p ∷ points) a) x curve.rising inside h.low h.high h.each

pub part_lookup : (points : List (ℤ × ℤ)) (a c : Interval) → IsCurve points → IsInterval a → IsPartOf a c → IsPartOf (lut_span points a) (lut_span points c)
part_lookup points a c curve order part =
    let s = lut_span points c in
    let low = in_lookup points c a.lo curve (part.0, omega (arith, ints, order, part.1)) in
    let high = in_lookup points c a.hi curve (omega (arith, ints, order, part.0), part.1) in
    let each = All-cons (IsIn s) (curve_value points a.hi) (values_within points a) high (all_from a s points (narrower a c s points part (holds points c).each)) in
    let ys : List ℤ = curve_value points a.hi ∷ values_within points a in
    ((fold_min_in s (curve_value points a.lo) ys low each).0, (fold_max_in s (curve_value points a.lo) ys low each).1)
