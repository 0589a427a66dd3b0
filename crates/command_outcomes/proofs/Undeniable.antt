-- What can't be denied: classical logic in the command that needs no axiom. Each lemma leads to whatever its last argument gives.
use Rattle.std.proofs.Common.{inl, inr, ◌≡◌, ◌⊎◌, ℕ, zero, suc, ◌<◌, Some, List, [], ◌∷◌, length, get_or, refl, sym, subst, arith}
use Rattle.std.proofs.lemmas.Bool.{cases_eq}
use Rattle.text_pieces.proofs.Undeniable.{either}
use Rattle.game_core.specs.Judging.{IsFirstFailure}

one_more : (Fact : ℕ → Type 0) (n : ℕ) → ((c : ℕ) → c < n → Fact c) → Fact n → (c : ℕ) → c < suc n → Fact c
one_more Fact n below here c lt =
    elim (cases_eq c n) [
      | inl e ↦ subst Fact (sym e) here
      | inr other ↦ below c (omega (arith, lt, other))
    ]

-- a fact holds of the first n numbers, or there is a first of which it doesn't
pub first_without : (Fact : ℕ → Type 0) (n : ℕ) → (((c : ℕ) → c < n → Fact c) ⊎ ((c : ℕ) × IsFirstFailure Fact 0 n (Some c)) → ⊥) → ⊥
first_without Fact zero deny = deny (inl (λ c lt. absurd (omega (arith, lt))))
first_without Fact (suc n) deny =
    first_without Fact n (λ found. elim found [
      | inl all ↦ either (Fact n) (λ here. elim here [
        | inl fact ↦ deny (inl (one_more Fact n all fact))
        | inr fails ↦ deny (inr (n, (omega arith, omega arith, fails, λ b low. all b)))
      ])
      | inr first ↦ deny (inr (first.0, (omega arith, omega (arith, first.1.1), first.1.2, first.1.3)))
    ])

-- one value for each of the first n numbers
pub chosen : {A : Type 0} (default : A) (Is : ℕ → A → Type 0) (n : ℕ) → ((c : ℕ) → c < n → ((x : A) × Is c x → ⊥) → ⊥)
    → ((xs : List A) × (length xs ≡ n) × ((c : ℕ) → c < n → Is c (get_or xs c default)) → ⊥) → ⊥
chosen default Is zero each deny = deny ([], refl, λ c lt. absurd (omega (arith, lt)))
chosen {A = A} default Is (suc n) each deny =
    each 0 (omega arith) (λ first. chosen default (λ c x. Is (suc c) x) n (λ c lt. each (suc c) (omega (arith, lt))) (λ rest. deny (first.0 ∷ rest.0, (let size = rest.1 in omega (arith, size)), with_first first.0 rest.0 first.1 rest.2)))
  where
    with_first : (x : A) (xs : List A) → Is 0 x → ((c : ℕ) → c < n → Is (suc c) (get_or xs c default)) → (c : ℕ) → c < suc n → Is c (get_or (x ∷ xs) c default)
    with_first x xs here rest zero lt = here
    with_first x xs here rest (suc c) lt = rest c (omega (arith, lt))
