-- Elements of lists, and arrays that are filled one by one.
use Rattle.std.proofs.Common.{◌≡◌, ◌≢◌, ℕ, ◌+◌, ◌<◌, List, [], ◌∷◌, ◌++◌, length, take, set, get_or, get_or-set_other, get_or-set_same, below_more, sym, ap, ap₂, subst, ◌∙◌, arith}
use Rattle.std.proofs.lemmas.List.{length-append, get_or_append_left, get_or-append_right, take_more, take_more_set, take_all}

-- an element of one of three lists
module _ {X : Type 0} (xs ys zs : List X) (k i : ℕ) (d : X) where
  pub in_first : k ≡ i → i < length xs → get_or (xs ++ ys ++ zs) k d ≡ get_or xs i d
  in_first at lt =
      ap (λ (j : ℕ). get_or (xs ++ ys ++ zs) j d) at ∙ get_or_append_left (xs ++ ys) zs d i (omega (arith, length-append xs ys, lt)) ∙ get_or_append_left xs ys d i lt

  pub in_second : (n : ℕ) → length xs ≡ n → k ≡ n + i → i < length ys → get_or (xs ++ ys ++ zs) k d ≡ get_or ys i d
  in_second n is at lt =
      get_or_append_left (xs ++ ys) zs d k (omega (arith, length-append xs ys, is, at, lt)) ∙ get_or-append_right xs ys n k d is (omega (arith, at))
      ∙ ap (λ (j : ℕ). get_or ys j d) (omega (arith, at))

  pub in_third : (n m : ℕ) → length xs ≡ n → length ys ≡ m → k ≡ n + m + i → get_or (xs ++ ys ++ zs) k d ≡ get_or zs i d
  in_third n m is are at =
      get_or-append_right (xs ++ ys) zs (n + m) k d (omega (arith, length-append xs ys, is, are)) (omega (arith, at)) ∙ ap (λ (j : ℕ). get_or zs j d) (omega (arith, at))

-- an array that is filled from the front
pub fill_more : {X : Type 0} (filled wanted : List X) (k : ℕ) (y d : X) → k < length filled → k < length wanted → take k filled ≡ take k wanted → y ≡ get_or wanted k d → take (k + 1) (set filled k y) ≡ take (k + 1) wanted
fill_more {X} filled wanted k y d capacity lt so_far is = take_more_set filled k y capacity ∙ ap₂ (λ (xs : List X) (z : X). xs ++ z ∷ []) so_far is ∙ sym (take_more wanted k d lt)

pub fill_all : {X : Type 0} (filled wanted : List X) (k n : ℕ) → k ≡ n → length wanted ≡ n → take k filled ≡ take k wanted → take n filled ≡ wanted
fill_all filled wanted k n last all so_far = rw (← last) (so_far ∙ take_all k wanted (omega (arith, last, all)))

-- one index more of what is known index by index
pub index_more : {X : Type 0} (P : ℕ → X → Type 0) (d : X) (xs : List X) (k : ℕ) (x : X) → k < length xs → ((i : ℕ) → i < k → P i (get_or xs i d)) → P k x → (i : ℕ) → i < k + 1 → P i (get_or (set xs k x) i d)
index_more P d xs k x capacity so_far here =
    below_more (λ (i : ℕ). P i (get_or (set xs k x) i d)) k
    (λ i before. let other : i ≢ k = omega (arith, before) in subst (P i) (sym (get_or-set_other xs k i x d other)) (so_far i before))
    (subst (P k) (sym (get_or-set_same xs k x d capacity)) here)
