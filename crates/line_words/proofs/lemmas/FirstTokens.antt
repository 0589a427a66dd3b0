-- The first token of a line, and the tokens of what is after it.
use Rattle.std.proofs.Common.{◌≡◌, ℕ, suc, ◌+◌, true, false, cond, eqb, List, [], ◌∷◌, ◌++◌, length, take, drop, refl, sym, ap, subst, ◌∙◌, arith, append_assoc, ◌⊎◌, ◌&&◌, ◌||◌, inl, inr}
use Rattle.std.specs.List.{flat_map, prefix_len}
use Rattle.std.proofs.lemmas.Bool.{cases_Bool, eqb-true, and_parts, or_cases, false_from_ne_true}
use Rattle.std.proofs.lemmas.List.{append-nil, nil_from_length}
use Rattle.line_words.specs.Names.{is_letter, is_digit, is_name_byte}
use Rattle.line_words.specs.Words.{is_blank, ends_word, words_of}
use Rattle.line_words.specs.Lines.{with_front_byte}
use Rattle.line_words.specs.Tokens.{goes_on, tokens_after, tokens_of}
use Rattle.line_words.specs.LineTokens.{tokens_in}

one_more : (n : ℕ) → 1 + n ≡ suc n
one_more n = omega arith

pub blanks_pass : (bytes : List ℕ) → tokens_in (drop (prefix_len is_blank bytes) bytes) ≡ tokens_in bytes
blanks_pass [] = refl
blanks_pass (b ∷ bytes) =
    elim (cases_Bool (is_blank b)) [
      | inl e ↦ rw (e, one_more (prefix_len is_blank bytes)) (blanks_pass bytes)
      | inr e ↦ rw (e, e) refl
    ]

-- no blank is left in front
pub no_blank : (bytes after : List ℕ) (b : ℕ) → drop (prefix_len is_blank bytes) bytes ≡ b ∷ after → is_blank b ≡ false
no_blank [] after b h = absurd cc
no_blank (c ∷ bytes) after b h =
    elim (cases_Bool (is_blank c)) [
      | inl e ↦ no_blank bytes after b (rw (e, one_more (prefix_len is_blank bytes)) at h)
      | inr e ↦ let first : c ≡ b = cc (rw e at h) in subst (λ (d : ℕ). is_blank d ≡ false) first e
    ]

-- a blank goes on with no token
blank_ends : (first c : ℕ) → is_blank c ≡ true → goes_on (first ∷ []) c ≡ false
blank_ends first c blank =
    false_from_ne_true (goes_on (first ∷ []) c) (λ on. named c blank (elim (or_cases (is_letter first && is_name_byte c) (is_digit first && is_digit c) on) [
      | inl h ↦ inl (and_parts (is_letter first) (is_name_byte c) h).1
      | inr h ↦ inr (and_parts (is_digit first) (is_digit c) h).1
    ]))
  where
    at : (c d : ℕ) → c ≡ d → is_name_byte d ≡ false → is_digit d ≡ false → (is_name_byte c ≡ true) ⊎ (is_digit c ≡ true) → ⊥
    at c d e n g (inl h) = let k : is_name_byte d ≡ true = subst (λ (x : ℕ). is_name_byte x ≡ true) e h in absurd cc
    at c d e n g (inr h) = let k : is_digit d ≡ true = subst (λ (x : ℕ). is_digit x ≡ true) e h in absurd cc

    named : (c : ℕ) → is_blank c ≡ true → (is_name_byte c ≡ true) ⊎ (is_digit c ≡ true) → ⊥
    named c blank h = elim (or_cases (eqb c 32) (eqb c 9 || eqb c 13) blank) [
      | inl e ↦ at c 32 (eqb-true c 32 e) refl refl h
      | inr r ↦ elim (or_cases (eqb c 9) (eqb c 13) r) [
        | inl e ↦ at c 9 (eqb-true c 9 e) refl refl h
        | inr e ↦ at c 13 (eqb-true c 13 e) refl refl h
      ]
    ]

-- the tokens of words of which the first goes on with a token that is begun
abbrev begun_words : List ℕ → List (List ℕ) → List (List ℕ)
begun_words token [] = token ∷ []
begun_words token (w ∷ words) = tokens_after token w ++ flat_map tokens_of words

-- the tokens of bytes after a token that is begun
abbrev after_begun : List ℕ → List ℕ → List (List ℕ)
after_begun token bytes = cond (ends_word bytes) (token ∷ tokens_in bytes) (begun_words token (words_of bytes))

begun : (b : ℕ) (bytes : List ℕ) → is_blank b ≡ false → tokens_in (b ∷ bytes) ≡ after_begun (b ∷ []) bytes
begun b bytes e =
    elim (cases_Bool (ends_word bytes)) [
      | inl ends ↦ rw (e, ends) refl
      | inr goes ↦ rw (e, goes) (with_first (words_of bytes))
    ]
  where
    with_first : (words : List (List ℕ)) → flat_map tokens_of (with_front_byte b words) ≡ begun_words (b ∷ []) words
    with_first [] = refl
    with_first (w ∷ words) = refl

joined_goes_on : (token : List ℕ) (c : ℕ) (words : List (List ℕ)) → goes_on token c ≡ true → begun_words token (with_front_byte c words) ≡ begun_words (token ++ c ∷ []) words
joined_goes_on token c [] on = rw on refl
joined_goes_on token c (w ∷ words) on = rw on refl

joined_ends : (token : List ℕ) (c : ℕ) (words : List (List ℕ)) → goes_on token c ≡ false → begun_words token (with_front_byte c words) ≡ token ∷ flat_map tokens_of (with_front_byte c words)
joined_ends token c [] stops = rw stops refl
joined_ends token c (w ∷ words) stops = rw stops refl

after_goes_on : (token : List ℕ) (c : ℕ) (bytes : List ℕ) → is_blank c ≡ false → goes_on token c ≡ true → after_begun token (c ∷ bytes) ≡ after_begun (token ++ c ∷ []) bytes
after_goes_on token c bytes e on =
    elim (cases_Bool (ends_word bytes)) [
      | inl ends ↦ rw (e, ends, on) refl
      | inr goes ↦ rw (e, goes) (joined_goes_on token c (words_of bytes) on)
    ]

after_ends : (token : List ℕ) (c : ℕ) (bytes : List ℕ) → is_blank c ≡ false → goes_on token c ≡ false → after_begun token (c ∷ bytes) ≡ token ∷ tokens_in (c ∷ bytes)
after_ends token c bytes e stops =
    elim (cases_Bool (ends_word bytes)) [
      | inl ends ↦ rw (e, ends, stops) refl
      | inr goes ↦ rw (e, goes) (joined_ends token c (words_of bytes) stops)
    ]

after_is : (first : ℕ) (more bytes : List ℕ) → after_begun (first ∷ more) bytes ≡ ((first ∷ more) ++ take (prefix_len (goes_on (first ∷ [])) bytes) bytes) ∷ tokens_in (drop (prefix_len (goes_on (first ∷ [])) bytes) bytes)
after_is first more [] = ap (λ (t : List ℕ). t ∷ []) (sym (append-nil (first ∷ more)))
after_is first more (c ∷ bytes) =
    elim (cases_Bool (is_blank c)) [
      | inl blank ↦
          let stops = blank_ends first c blank in
          let whole = append-nil (first ∷ more) in
          rw (blank, stops, whole, blank) refl
      | inr e ↦ elim (cases_Bool (goes_on (first ∷ []) c)) [
        | inl on ↦
            after_goes_on (first ∷ more) c bytes e on
            ∙ after_is first (more ++ c ∷ []) bytes
            ∙ rw (on, one_more (prefix_len (goes_on (first ∷ [])) bytes), append_assoc) refl
        | inr stops ↦ after_ends (first ∷ more) c bytes e stops ∙ rw (stops, append-nil more) refl
      ]
    ]

-- the first token, and the tokens after it
pub first_token : (b : ℕ) (after : List ℕ) → is_blank b ≡ false → tokens_in (b ∷ after) ≡ (b ∷ take (prefix_len (goes_on (b ∷ [])) after) after) ∷ tokens_in (drop (prefix_len (goes_on (b ∷ [])) after) after)
first_token b after e = begun b after e ∙ after_is b [] after

-- the same as the reader finds it
pub token_found : (bytes rest after token rest_after : List ℕ) (n m b : ℕ) → n ≡ prefix_len is_blank bytes → rest ≡ drop n bytes → rest ≡ b ∷ after → m ≡ prefix_len (goes_on (b ∷ [])) after → token ≡ take (1 + m) rest → rest_after ≡ drop (1 + m) rest
    → tokens_in bytes ≡ token ∷ tokens_in rest_after
token_found bytes rest after token rest_after n m b blanks at first more front back =
    let here : drop (prefix_len is_blank bytes) bytes ≡ b ∷ after = ap (λ (k : ℕ). drop k bytes) (sym blanks) ∙ sym at ∙ first in
    let front_is : b ∷ take (prefix_len (goes_on (b ∷ [])) after) after ≡ token = sym (rw (front, first, more, one_more (prefix_len (goes_on (b ∷ [])) after)) refl) in
    let back_is : drop (prefix_len (goes_on (b ∷ [])) after) after ≡ rest_after = sym (rw (back, first, more, one_more (prefix_len (goes_on (b ∷ [])) after)) refl) in
    sym (blanks_pass bytes) ∙ ap tokens_in here ∙ first_token b after (no_blank bytes after b here)
    ∙ ap (λ (t : List ℕ). t ∷ tokens_in (drop (prefix_len (goes_on (b ∷ [])) after) after)) front_is
    ∙ ap (λ (t : List ℕ). token ∷ tokens_in t) back_is

pub no_token : (bytes rest : List ℕ) (n : ℕ) → n ≡ prefix_len is_blank bytes → rest ≡ drop n bytes → length rest ≡ 0 → tokens_in bytes ≡ []
no_token bytes rest n blanks at none =
    sym (blanks_pass bytes) ∙ ap (λ (k : ℕ). tokens_in (drop k bytes)) (sym blanks) ∙ ap tokens_in (sym at ∙ nil_from_length rest none)
