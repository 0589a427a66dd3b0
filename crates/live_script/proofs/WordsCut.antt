-- Where a word ends, and that bytes are cut there in one way.
use Rattle.std.proofs.Common.{◌≡◌, ℕ, ◌<◌, ◌≤◌, Bool, true, false, not, List, [], ◌∷◌, ◌++◌, length, take, drop, Some, None, refl, ap, sym, ◌∙◌, subst, arith, one-add}
use Rattle.std.specs.Prelude.{ℤ, position}
use Rattle.std.specs.List.{position_or_len}
use Rattle.std.specs.Fmt.{signed_decimal}
use Rattle.line_words.specs.Numbers.{IsLiteral}
use Rattle.line_words.specs.Separators.{is_separator, is_word}
use Rattle.line_words.proofs.lemmas.Positions.{position_some, position_none}
use Rattle.line_words.proofs.lemmas.NumberBytes.{number_word}
use Rattle.line_words.proofs.lemmas.NumberWords.{one_number}
use Rattle.row_runs.proofs.Cuts.{one_cut}
use Rattle.live_script.specs.inside.QuestionWords.{BeginsWithSeparator}

-- ---- the first separator

abbrev IsCut : List ℕ → Type 0
IsCut bytes = (is_word (take (position_or_len is_separator bytes) bytes) ≡ true) × BeginsWithSeparator (drop (position_or_len is_separator bytes) bytes)

cut_further : (b : ℕ) (bytes : List ℕ) (t : Bool) → is_separator b ≡ t → (position_or_len is_separator bytes < length bytes → IsCut bytes) → position_or_len is_separator (b ∷ bytes) < length (b ∷ bytes) → IsCut (b ∷ bytes)
cut_further b bytes true e others lt = rw e (refl, record { separator = b; after = bytes; are = refl; separates = e })
cut_further b bytes false e others lt =
    let far = rw e at lt in
    let more = others (omega (arith, far)) in
    rw (e, one-add) (rw e more.0, more.1)

cut_at_first : (bytes : List ℕ) → position_or_len is_separator bytes < length bytes → IsCut bytes
cut_at_first [] lt = absurd (omega (arith, lt))
cut_at_first (b ∷ bytes) lt = cut_further b bytes (is_separator b) refl (cut_at_first bytes) lt

pub cut_here : (bytes : List ℕ) (n : ℕ) → Some n ≡ position is_separator bytes → (is_word (take n bytes) ≡ true) × BeginsWithSeparator (drop n bytes)
cut_here bytes n at =
    let position = position_some is_separator bytes n at in
    subst (λ (k : ℕ). (is_word (take k bytes) ≡ true) × BeginsWithSeparator (drop k bytes)) position.0 (cut_at_first bytes position.1)

reached : (b : ℕ) (bytes : List ℕ) (t : Bool) → is_separator b ≡ t → (length bytes ≤ position_or_len is_separator bytes → ⊥) → length (b ∷ bytes) ≤ position_or_len is_separator (b ∷ bytes) → ⊥
reached b bytes true e others le = let near = rw e at le in omega (arith, near)
reached b bytes false e others le = let far = rw e at le in others (omega (arith, far))

within_word : (word rest : List ℕ) → BeginsWithSeparator rest → length (word ++ rest) ≤ position_or_len is_separator (word ++ rest) → ⊥
within_word [] rest begins le =
    reached begins.separator begins.after true begins.separates (λ less. absurd (first_is begins.separator begins.after begins.separates (subst (λ (r : List ℕ). length r ≤ position_or_len is_separator r) begins.are le))) (subst (λ (r : List ℕ). length r ≤ position_or_len is_separator r) begins.are le)
  where
    first_is : (b : ℕ) (bytes : List ℕ) → is_separator b ≡ true → length (b ∷ bytes) ≤ position_or_len is_separator (b ∷ bytes) → ⊥
    first_is b bytes e le = let near = rw e at le in omega (arith, near)
within_word (b ∷ word) rest begins le = reached b (word ++ rest) (is_separator b) refl (within_word word rest begins) le

-- where no separator stands, no word ends
pub no_word : (bytes : List ℕ) → None ≡ position is_separator bytes → (word rest : List ℕ) → BeginsWithSeparator rest → bytes ≡ word ++ rest → ⊥
no_word bytes none word rest begins are =
    within_word word rest begins (position_none is_separator (word ++ rest) (none ∙ ap (position is_separator) are))

-- ---- one cut

not_false : (b : Bool) → b ≡ true → not b ≡ false
not_false b e = rw e refl

-- two words and what begins after them
pub one_word : (v w rest other : List ℕ) → is_word v ≡ true → is_word w ≡ true → BeginsWithSeparator rest → BeginsWithSeparator other → v ++ rest ≡ w ++ other → (v ≡ w) × (rest ≡ other)
one_word v w rest other hv hw hr ho e =
    let cut = one_cut (λ b. not (is_separator b)) v w hr.separator ho.separator hr.after ho.after hv hw
    (not_false (is_separator hr.separator) hr.separates) (not_false (is_separator ho.separator) ho.separates)
    (ap (λ (r : List ℕ). v ++ r) (sym hr.are) ∙ e ∙ ap (λ (r : List ℕ). w ++ r) ho.are) in (
      cut.front,
      hr.are ∙ ap (λ (s : ℕ). s ∷ hr.after) cut.stop ∙ ap (λ (t : List ℕ). ho.separator ∷ t) cut.rest ∙ sym ho.are,
    )

-- one number stands at the front
pub one_number_at : (y z : ℤ) (rest other : List ℕ) → IsLiteral y → IsLiteral z → BeginsWithSeparator rest → BeginsWithSeparator other → signed_decimal y ++ rest ≡ signed_decimal z ++ other → (y ≡ z) × (rest ≡ other)
one_number_at y z rest other hy hz hr ho e =
    let cut = one_word (signed_decimal y) (signed_decimal z) rest other (number_word y hy) (number_word z hz) hr ho e in
    (one_number y z hy hz cut.0, cut.1)
