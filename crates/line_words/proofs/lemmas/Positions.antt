-- Where the first item stands that passes a test.
use Rattle.std.proofs.Common.{◌≡◌, ℕ, ◌<◌, ◌≤◌, Bool, true, false, cond, List, [], ◌∷◌, length, Some, None, refl, sym, ◌∙◌, arith, not, unwrap_or, ltb, inl, inr}
use Rattle.std.specs.List.{position, position_or_len, prefix_len}
use Rattle.std.proofs.lemmas.Bool.{cases_Bool, ltb-true, ltb-false}
use Rattle.std.proofs.lemmas.List.Sums.{prefix_len-le-length}

some_if : {A : Type 0} (b : Bool) (x y : A) → cond b (Some x) None ≡ Some y → (b ≡ true) × (x ≡ y)
some_if true x y e = (refl, cc)
some_if false x y e = absurd cc

none_if : {A : Type 0} (b : Bool) (x : A) → cond b (Some x) None ≡ None → b ≡ false
none_if true x e = absurd cc
none_if false x e = refl

pub position_some : (p : ℕ → Bool) (xs : List ℕ) (n : ℕ) → Some n ≡ position p xs → (position_or_len p xs ≡ n) × (position_or_len p xs < length xs)
position_some p xs n e =
    let f = some_if _ _ n (sym e) in
    (f.1, ltb-true _ _ f.0)

pub position_none : (p : ℕ → Bool) (xs : List ℕ) → None ≡ position p xs → length xs ≤ position_or_len p xs
position_none p xs e = ltb-false _ _ (none_if _ _ (sym e))

or_len : (p : ℕ → Bool) (xs : List ℕ) (t : Bool) → ltb (position_or_len p xs) (length xs) ≡ t → unwrap_or (position p xs) (length xs) ≡ position_or_len p xs
or_len p xs true e = rw e refl
or_len p xs false e = rw e (omega (arith, ltb-false _ _ e, prefix_len-le-length (λ x. not (p x)) xs))

pub position_or_length : (p : ℕ → Bool) (xs : List ℕ) → unwrap_or (position p xs) (length xs) ≡ position_or_len p xs
position_or_length p xs = or_len p xs (ltb (position_or_len p xs) (length xs)) refl

-- the items before the first that fails a test
before_failing : (p : ℕ → Bool) (xs : List ℕ) → position_or_len (λ x. not (p x)) xs ≡ prefix_len p xs
before_failing p [] = refl
before_failing p (x ∷ xs) =
    elim (cases_Bool (p x)) [
      | inl e ↦ rw (e, before_failing p xs) refl
      | inr e ↦ rw e refl
    ]

pub failing_or_len : (p : ℕ → Bool) (xs : List ℕ) → unwrap_or (position (λ x. not (p x)) xs) (length xs) ≡ prefix_len p xs
failing_or_len p xs = position_or_length (λ x. not (p x)) xs ∙ before_failing p xs
