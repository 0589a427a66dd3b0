-- Lists in which one element or one part changes or is moved.
use Rattle.std.proofs.Common.{◌≡◌, ℕ, zero, suc, ◌+◌, ◌<◌, Bool, true, false, cond, filter, List, [], ◌∷◌, ◌++◌, length, get_or, set, refl, sym, ap, ◌∙◌, subst, arith, All, IsPermutation, append_assoc}
use Rattle.std.specs.List.Sorted.{IsStrictlyIncreasing}
use mathlib.Core.Option.{some, some-ne-none, some-injective}
use mathlib.Core.Logic.{dite}
use native.Mathlib.Decide.{dec_lt}
use lib.ListN.{get_elem?}
use Rattle.std.proofs.lemmas.List.{append-nil, get_or_append_left, get_or_push, length_push}
use Rattle.std.specs.List.{flat_map}
use Rattle.std.proofs.lemmas.List.Concat.{flat_map-append}
use Rattle.std.proofs.lemmas.List.Elements.{All-cons, All-head, All-tail, All-append, filter-append}
use Rattle.std.proofs.lemmas.List.Sorted.{IsPermutation-sym, IsPermutation-middle, IsPermutation-append_left, IsPermutation-append_right, IsPermutation-append_comm}

module _ {A : Type 0} where
  -- a list around one of its elements
  pub record Around (xs : List A) (i : ℕ) (a : A) : Type 0 where
    pub front : List A
    pub back : List A
    pub is : xs ≡ front ++ a ∷ back
    pub becomes : (b : A) → set xs i b ≡ front ++ b ∷ back

  pub around : (xs : List A) (i : ℕ) (a : A) → get_elem? xs i ≡ some a → Around xs i a
  around [] i a e = absurd (some-ne-none a (sym e))
  around (x ∷ xs) zero a e = record { front = []; back = xs; is = ap (λ y. y ∷ xs) (some-injective x a e); becomes = λ b. refl }
  around (x ∷ xs) (suc i) a e =
      let r = around xs i a e in
      record { front = x ∷ r.front; back = r.back; is = ap (λ ys. x ∷ ys) r.is; becomes = λ b. ap (λ ys. x ∷ ys) (r.becomes b) }

  -- what holds of each element, where one is replaced
  pub All-replaced : (P : A → Type 0) (front back : List A) (a b : A) → (P a → P b) → All P (front ++ a ∷ back) → All P (front ++ b ∷ back)
  All-replaced P [] back a b k h = All-cons P b back (k (All-head P a back h)) (All-tail P a back h)
  All-replaced P (x ∷ front) back a b k h = All-cons P x (front ++ b ∷ back) (All-head P x (front ++ a ∷ back) h) (All-replaced P front back a b k (All-tail P x (front ++ a ∷ back) h))

  pub All-front : (P : A → Type 0) (xs ys : List A) → All P (xs ++ ys) → All P xs
  All-front P [] ys h = λ k d lt. absurd (omega arith)
  All-front P (x ∷ xs) ys h = All-cons P x xs (All-head P x (xs ++ ys) h) (All-front P xs ys (All-tail P x (xs ++ ys) h))

  pub All-back : (P : A → Type 0) (xs ys : List A) → All P (xs ++ ys) → All P ys
  All-back P [] ys h = h
  All-back P (x ∷ xs) ys h = All-back P xs ys (All-tail P x (xs ++ ys) h)

  pub All-at : (P : A → Type 0) (xs : List A) (i : ℕ) (a : A) → get_elem? xs i ≡ some a → All P xs → P a
  All-at P [] i a e h = absurd (some-ne-none a (sym e))
  All-at P (x ∷ xs) zero a e h = subst P (some-injective x a e) (All-head P x xs h)
  All-at P (x ∷ xs) (suc i) a e h = All-at P xs i a e (All-tail P x xs h)

  -- one more element at the end of an inner part
  pub pushed_inside : (front part back : List A) (x : A) → IsPermutation (x ∷ (front ++ (part ++ back))) (front ++ ((part ++ x ∷ []) ++ back))
  pushed_inside front part back x =
      let at : (front ++ part) ++ x ∷ back ≡ front ++ ((part ++ x ∷ []) ++ back) = append_assoc front part (x ∷ back) ∙ ap (λ l. front ++ l) (sym (append_assoc part (x ∷ []) back)) in
      let same : x ∷ ((front ++ part) ++ back) ≡ x ∷ (front ++ (part ++ back)) = ap (λ l. x ∷ l) (append_assoc front part back) in
      subst (λ l. IsPermutation (x ∷ (front ++ (part ++ back))) l) at
      (subst (λ l. IsPermutation l ((front ++ part) ++ x ∷ back)) same
      (IsPermutation-sym ((front ++ part) ++ x ∷ back) (x ∷ ((front ++ part) ++ back)) (IsPermutation-middle (front ++ part) x back)))

  -- a part moves in front of another
  pub part_moved : (front before part back : List A) → IsPermutation (front ++ (before ++ (part ++ back))) ((front ++ part) ++ (before ++ back))
  part_moved front before part back =
      let swapped : IsPermutation ((before ++ part) ++ back) ((part ++ before) ++ back) = IsPermutation-append_left back (before ++ part) (part ++ before) (IsPermutation-append_comm before part) in
      let inner : IsPermutation (before ++ (part ++ back)) (part ++ (before ++ back)) =
      subst (λ l. IsPermutation l (part ++ (before ++ back))) (append_assoc before part back) (subst (λ l. IsPermutation ((before ++ part) ++ back) l) (append_assoc part before back) swapped) in
      subst (λ l. IsPermutation (front ++ (before ++ (part ++ back))) l) (sym (append_assoc front part (before ++ back))) (IsPermutation-append_right front (before ++ (part ++ back)) (part ++ (before ++ back)) inner)

-- the same, where each element gives a part
pub flat_map_moved : {A B : Type 0} (f : A → List B) (front before part back : List A) → IsPermutation (flat_map f (front ++ (before ++ (part ++ back)))) (flat_map f ((front ++ part) ++ (before ++ back)))
flat_map_moved f front before part back =
    let was : flat_map f (front ++ (before ++ (part ++ back))) ≡ flat_map f front ++ (flat_map f before ++ (flat_map f part ++ flat_map f back)) =
    flat_map-append f front (before ++ (part ++ back)) ∙ ap (λ l. flat_map f front ++ l) (flat_map-append f before (part ++ back) ∙ ap (λ l. flat_map f before ++ l) (flat_map-append f part back)) in
    let is : flat_map f ((front ++ part) ++ (before ++ back)) ≡ (flat_map f front ++ flat_map f part) ++ (flat_map f before ++ flat_map f back) =
    flat_map-append f (front ++ part) (before ++ back) ∙ ap (λ l. l ++ flat_map f (before ++ back)) (flat_map-append f front part) ∙ ap (λ l. (flat_map f front ++ flat_map f part) ++ l) (flat_map-append f before back) in
    subst (λ l. IsPermutation l (flat_map f ((front ++ part) ++ (before ++ back)))) (sym was)
    (subst (λ l. IsPermutation (flat_map f front ++ (flat_map f before ++ (flat_map f part ++ flat_map f back))) l) (sym is)
    (part_moved (flat_map f front) (flat_map f before) (flat_map f part) (flat_map f back)))

-- one more element, which passes a test or doesn't
pub filter_push_yes : {A : Type 0} (p : A → Bool) (xs : List A) (x : A) → p x ≡ true → filter p (xs ++ x ∷ []) ≡ filter p xs ++ x ∷ []
filter_push_yes p xs x passes = filter-append p xs (x ∷ []) ∙ ap (λ b. filter p xs ++ cond b (x ∷ []) []) passes

pub filter_push_no : {A : Type 0} (p : A → Bool) (xs : List A) (x : A) → p x ≡ false → filter p (xs ++ x ∷ []) ≡ filter p xs
filter_push_no p xs x fails = filter-append p xs (x ∷ []) ∙ ap (λ b. filter p xs ++ cond b (x ∷ []) []) fails ∙ append-nil (filter p xs)

-- what holds of all parts' elements holds of each part's, and back
pub All-parts : {A B : Type 0} (P : B → Type 0) (f : A → List B) (xs : List A) → All P (flat_map f xs) → All (λ x. All P (f x)) xs
All-parts P f [] h = λ k d lt. absurd (omega arith)
All-parts P f (x ∷ xs) h = All-cons (λ y. All P (f y)) x xs (All-front P (f x) (flat_map f xs) h) (All-parts P f xs (All-back P (f x) (flat_map f xs) h))

pub All-joined : {A B : Type 0} (P : B → Type 0) (f : A → List B) (xs : List A) → All (λ x. All P (f x)) xs → All P (flat_map f xs)
All-joined P f [] h = λ k d lt. absurd (omega arith)
All-joined P f (x ∷ xs) h = All-append P (f x) (flat_map f xs) (All-head (λ y. All P (f y)) x xs h) (All-joined P f xs (All-tail (λ y. All P (f y)) x xs h))

-- a greater number at the end keeps a list rising
pub IsStrictlyIncreasing-push : (xs : List ℕ) (y : ℕ) → IsStrictlyIncreasing xs → All (λ x. x < y) xs → IsStrictlyIncreasing (xs ++ y ∷ [])
IsStrictlyIncreasing-push xs y up below k lt =
    let long : length (xs ++ y ∷ []) ≡ length xs + 1 = length_push xs y in
    let here : k < length xs = omega arith in
    let first : get_or (xs ++ y ∷ []) k 0 ≡ get_or xs k 0 = get_or_append_left xs (y ∷ []) 0 k here in
    dite (dec_lt (k + 1) (length xs))
    (λ (more : k + 1 < length xs). let second : get_or (xs ++ y ∷ []) (k + 1) 0 ≡ get_or xs (k + 1) 0 = get_or_append_left xs (y ∷ []) 0 (k + 1) more in
    let was : get_or xs k 0 < get_or xs (k + 1) 0 = up k more in omega arith)
    (λ (last : ¬ (k + 1 < length xs)). let second : get_or (xs ++ y ∷ []) (k + 1) 0 ≡ y = get_or_push xs y 0 (k + 1) (omega arith) in
    let less : get_or xs k 0 < y = below k 0 here in omega arith)
