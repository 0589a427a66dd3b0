-- A list whose elements are changed one after another, each at its place.
use Rattle.std.proofs.Common.{◌≡◌, ◌≢◌, ℕ, ◌+◌, ◌<◌, List, length, set, get_or, get_or-set_other, get_or-set_same, below_more, refl, sym, subst, subst₂, ◌∙◌, arith}
use Rattle.std.proofs.lemmas.List.{length-set, get_or_default}

-- The elements at the first so many places are changed, and the others are as they were.
pub record AreChangedBelow {X : Type 0} (Change : ℕ → X → X → Type 0) (place : ℕ → ℕ) (d : X) (i : ℕ) (before now : List X) : Type 0 where
  pub long : length now ≡ length before
  pub changed : (u : ℕ) → u < i → Change u (get_or before (place u) d) (get_or now (place u) d)
  pub left : (n : ℕ) → ((u : ℕ) → u < i → n ≢ place u) → get_or now n d ≡ get_or before n d

module _ {X : Type 0} (d : X) (before : List X) where
  pub none_changed : (Change : ℕ → X → X → Type 0) (place : ℕ → ℕ) → AreChangedBelow Change place d 0 before before
  none_changed Change place = record { long = refl; changed = λ u none. absurd (omega (arith, none)); left = λ n apart. refl }

  module _ {Change : ℕ → X → X → Type 0} {place : ℕ → ℕ} (one_each : (u v : ℕ) → place u ≡ place v → u ≡ v) (i : ℕ) (now : List X) (h : AreChangedBelow Change place d i before now) (short : place i < length now) where
    -- the next element is still as it was
    pub next_was : (x : X) → x ≡ get_or now (place i) x → get_or before (place i) d ≡ x
    next_was x is = sym (h.left (place i) (λ u lt same. omega (arith, lt, one_each i u same))) ∙ get_or_default now (place i) d x short ∙ sym is

    pub next_changed : (x y : X) → x ≡ get_or now (place i) x → Change i x y → AreChangedBelow Change place d (i + 1) before (set now (place i) y)
    next_changed x y is by = record {
      long = length-set now (place i) y ∙ h.long;
      changed = below_more (λ (u : ℕ). Change u (get_or before (place u) d) (get_or (set now (place i) y) (place u) d)) i
          (λ u lt. subst (Change u (get_or before (place u) d)) (sym (get_or-set_other now (place i) (place u) y d (λ same. omega (arith, lt, one_each u i same)))) (h.changed u lt))
          (subst₂ (Change i) (sym (next_was x is)) (sym (get_or-set_same now (place i) y d short)) by);
      left = λ n apart. get_or-set_other now (place i) n y d (apart i (omega arith)) ∙ h.left n (λ u lt. apart u (omega (arith, lt)));
    }
