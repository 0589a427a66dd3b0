use Rattle.std.proofs.Common.{◌≡◌, ℕ, ◌+◌, Bool, true, false, cond, List, [], ◌∷◌, map, drop, get_or, drop-cons, add-one, refl, sym, ap, ap₂, subst, ◌∙◌}
use Rattle.std.specs.Prelude.{ℤ, pos, if◌then◌else◌}
use Rattle.std.specs.Int.{int_min, int_max}
use Rattle.std.specs.List.{fold, filter}
use Rattle.std.proofs.lemmas.List.{drop_all}
use Rattle.interval_eval.specs.declared.interval.Interval.{Interval}
use Rattle.interval_eval.specs.Span.{is_in, values_within, lut_span}
use Rattle.interval_eval.specs.inside.Joined.{joined_at}
use Rattle.interval_eval.proofs.interval.Interval.looked_up.Goals as goal

low_step : (points rest : List (ℤ × ℤ)) (p : ℤ × ℤ) (a s : Interval) → points ≡ p ∷ rest → fold int_min (joined_at a s p).lo (values_within rest a) ≡ fold int_min s.lo (values_within points a)
low_step points rest p a s is = by (is_in a p.0) ∙ ap (λ (l : List (ℤ × ℤ)). fold int_min s.lo (values_within l a)) (sym is)
  where
    by : (b : Bool) → fold int_min (if b then record { lo = int_min s.lo p.1; hi = int_max s.hi p.1 } else s).lo (values_within rest a) ≡ fold int_min s.lo (map (λ (q : ℤ × ℤ). q.1) (cond b (p ∷ filter (λ (q : ℤ × ℤ). is_in a q.0) rest) (filter (λ (q : ℤ × ℤ). is_in a q.0) rest)))
    by true = refl
    by false = refl

high_step : (points rest : List (ℤ × ℤ)) (p : ℤ × ℤ) (a s : Interval) → points ≡ p ∷ rest → fold int_max (joined_at a s p).hi (values_within rest a) ≡ fold int_max s.hi (values_within points a)
high_step points rest p a s is = by (is_in a p.0) ∙ ap (λ (l : List (ℤ × ℤ)). fold int_max s.hi (values_within l a)) (sym is)
  where
    by : (b : Bool) → fold int_max (if b then record { lo = int_min s.lo p.1; hi = int_max s.hi p.1 } else s).hi (values_within rest a) ≡ fold int_max s.hi (map (λ (q : ℤ × ℤ). q.1) (cond b (p ∷ filter (λ (q : ℤ × ℤ). is_in a q.0) rest) (filter (λ (q : ℤ × ℤ). is_in a q.0) rest)))
    by true = refl
    by false = refl

pub loop-point-preserved : goal.loop-point-preserved
loop-point-preserved c =
    let points = c.points-points.result.now in
    let k : ℕ = c.loop-point.point-index in
    let a : Interval = c.args.self in
    let s : Interval = c.loop-point.found in
    let p = get_or points k (pos 0, pos 0) in
    let is : c.joined-found.result ≡ joined_at a s p = c.joined-found.ensures in
    let next : drop k points ≡ p ∷ drop (k + 1) points = subst (λ (n : ℕ). drop k points ≡ p ∷ drop n points) (sym (add-one k)) (drop-cons points k (pos 0, pos 0) c.loop-point-test.true) in (
      ap (λ (i : Interval). fold int_min i.lo (values_within (drop (k + 1) points) a)) is ∙ low_step (drop k points) (drop (k + 1) points) p a s next ∙ c.loop-point.invariant.0,
      ap (λ (i : Interval). fold int_max i.hi (values_within (drop (k + 1) points) a)) is ∙ high_step (drop k points) (drop (k + 1) points) p a s next ∙ c.loop-point.invariant.1,
    )

pub returns : goal.returns
returns c =
    let points = c.points-points.result.now in
    let a : Interval = c.args.self in
    let s : Interval = c.loop-point.found in
    let none : drop c.loop-point.point-index points ≡ [] = drop_all c.loop-point.point-index points c.loop-point-test.false in
    let low : s.lo ≡ (lut_span points a).lo = ap (λ (l : List (ℤ × ℤ)). fold int_min s.lo (values_within l a)) (sym none) ∙ c.loop-point.invariant.0 in
    let high : s.hi ≡ (lut_span points a).hi = ap (λ (l : List (ℤ × ℤ)). fold int_max s.hi (values_within l a)) (sym none) ∙ c.loop-point.invariant.1 in
    let found : s ≡ lut_span points a = ap₂ (λ (lo hi : ℤ). record { lo = lo; hi = hi }) low high in
    subst (λ (l : List (ℤ × ℤ)). s ≡ lut_span l a) c.points-points.ensures.points found
