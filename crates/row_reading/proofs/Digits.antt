-- Numbers that are read: their digits one by one, and the bytes that no number's digits are.
use Rattle.std.proofs.Common.{◌≡◌, ℕ, zero, suc, ◌+◌, ◌*◌, ◌-◌, ◌/◌, ◌%◌, ◌^◌, ◌<◌, ◌≤◌, true, false, List, [], ◌∷◌, ◌++◌, length, length-append, get_or, refl, sym, ap, subst, ◌∙◌, append_assoc, append-nil, arith}
use Rattle.std.specs.List.{list_all, fold}
use Rattle.std.specs.Fmt.{decimal}
use Rattle.std.proofs.lemmas.Bool.{and_parts}
use Rattle.std.proofs.lemmas.Fmt.{decimal_by_steps, decimal_digit, decimal_step, decimal_nonempty, decimal_injective, first_decimal}
use Rattle.std.proofs.lemmas.List.Folds.{list_all-append}
use Rattle.std.proofs.lemmas.List.Sums.{fold-append}
use Rattle.line_words.specs.Names.{is_digit}
use Rattle.line_words.proofs.lemmas.Spelling.{one_digit, decimal_digits}
use Rattle.row_reading.specs.Numbers.{IsNumberTo}
use Rattle.row_runs.proofs.Cuts.{one_cut, not_both}

-- ---- digits

-- a number with one digit more
pub one_more : (v d : ℕ) (rest : List ℕ) → 0 < v → d < 10 → v < 2 ^ 32 → decimal v ++ (48 + d) ∷ rest ≡ decimal (v * 10 + d) ++ rest
one_more v d rest some small lt =
    let step = decimal_step (v * 10 + d) (omega arith) (omega arith) in
    let front : (v * 10 + d) / 10 ≡ v = omega arith in
    let last : (v * 10 + d) % 10 ≡ d = omega arith in
    let spelled : decimal (v * 10 + d) ≡ decimal v ++ (48 + d) ∷ [] = step ∙ ap (λ (k : ℕ). decimal k ++ (48 + (v * 10 + d) % 10) ∷ []) front ∙ ap (λ (k : ℕ). decimal v ++ (48 + k) ∷ []) last in
    sym (ap (λ (x : List ℕ). x ++ rest) spelled ∙ append_assoc (decimal v) ((48 + d) ∷ []) rest)

-- ---- lists that end before a byte that is no digit

pub only_digits : (w v r : List ℕ) (s : ℕ) → list_all is_digit w ≡ true → is_digit s ≡ false → w ≡ v ++ s ∷ r → ⊥
only_digits w v r s h e at =
    let both = and_parts (list_all is_digit v) (list_all is_digit (s ∷ r)) (sym (list_all-append is_digit v (s ∷ r)) ∙ ap (list_all is_digit) (sym at) ∙ h) in
    not_both (is_digit s) (and_parts (is_digit s) (list_all is_digit r) both.1).0 e

-- what is read of the digits that go on
pub goes_on : (w v b r : List ℕ) (s : ℕ) → list_all is_digit w ≡ true → is_digit s ≡ false → w ++ b ≡ v ++ s ∷ r → (u : List ℕ) × (v ≡ w ++ u)
goes_on [] v b r s h e at = (v, refl)
goes_on (x ∷ w) [] b r s h e at =
    let head : x ≡ s = (let k = at in cc) in
    absurd (not_both (is_digit x) (and_parts (is_digit x) (list_all is_digit w) h).0 (subst (λ (z : ℕ). is_digit z ≡ false) (sym head) e))
goes_on (x ∷ w) (y ∷ v) b r s h e at =
    let head : x ≡ y = (let k = at in cc) in
    let tail : w ++ b ≡ v ++ s ∷ r = (let k = at in cc) in
    let more = goes_on w v b r s (and_parts (is_digit x) (list_all is_digit w) h).1 e tail in
    (more.0, ap (λ (z : ℕ). z ∷ v) (sym head) ∙ ap (λ (z : List ℕ). x ∷ z) more.1)

-- ---- the value of digits

tens : ℕ → ℕ → ℕ
tens value b = value * 10 + (b - 48)

abbrev value_of : ℕ → List ℕ → ℕ
value_of value digits = fold tens value digits

one_ten : (v d : ℕ) → tens v (48 + d) ≡ v * 10 + d
unfolding tens
one_ten v d = omega arith

ten_more : (v b : ℕ) → v ≤ tens v b
unfolding tens
ten_more v b = omega arith

grows : (v : ℕ) (digits : List ℕ) → v ≤ value_of v digits
grows v [] = omega arith
grows v (b ∷ digits) = let more = grows (tens v b) digits in omega (arith, more, ten_more v b)

read_back : (n : ℕ) → n < 2 ^ 64 → value_of 0 (decimal n) ≡ n
read_back n lt = decimal_by_steps (λ (m : ℕ) (ds : List ℕ). value_of 0 ds ≡ m) one more n lt
  where
    one : (m : ℕ) → m < 10 → value_of 0 ((48 + m) ∷ []) ≡ m
    one m small = one_ten 0 m ∙ omega arith

    more : (m : ℕ) (ds : List ℕ) → 10 ≤ m → value_of 0 ds ≡ m / 10 → value_of 0 (ds ++ ((48 + m % 10) ∷ [])) ≡ m
    more m ds large h = fold-append tens 0 ds ((48 + m % 10) ∷ []) ∙ ap (λ (v : ℕ). tens v (48 + m % 10)) h ∙ one_ten (m / 10) (m % 10) ∙ omega arith

-- digits of a number at the front are no more than the number
pub no_more : (m n s : ℕ) (b r : List ℕ) → m < 2 ^ 64 → n < 2 ^ 64 → is_digit s ≡ false → decimal m ++ b ≡ decimal n ++ s ∷ r → m ≤ n
no_more m n s b r hm hn e at =
    let on = goes_on (decimal m) (decimal n) b r s (decimal_digits m hm) e at in
    let whole = ap (value_of 0) on.1 ∙ fold-append tens 0 (decimal m) on.0 in
    omega (arith, read_back m hm, read_back n hn, whole, grows (value_of 0 (decimal m)) on.0)

-- ---- one number at the front

pub one_number : (m n s : ℕ) (b r : List ℕ) → m < 2 ^ 32 → n < 2 ^ 32 → is_digit s ≡ false → decimal m ++ s ∷ b ≡ decimal n ++ s ∷ r → (m ≡ n) × (b ≡ r)
one_number m n s b r hm hn e at =
    let cut = one_cut is_digit (decimal m) (decimal n) s s b r (decimal_digits m (omega arith)) (decimal_digits n (omega arith)) e e at in
    (decimal_injective m n (omega arith) (omega arith) cut.front, cut.rest)

pub one_read : (stop : ℕ) (bytes : List ℕ) (y z : ℕ × List ℕ) → is_digit stop ≡ false → IsNumberTo stop bytes y → IsNumberTo stop bytes z → (y.0 ≡ z.0) × (y.1 ≡ z.1)
one_read stop bytes y z ends h k = one_number y.0 z.0 stop y.1 z.1 h.0 k.0 ends (sym h.1 ∙ k.1)

-- ---- bytes with no number at their front

first_is_digit : (w b r : List ℕ) (x : ℕ) → 0 < length w → list_all is_digit w ≡ true → x ∷ b ≡ w ++ r → is_digit x ≡ true
first_is_digit [] b r x some h at = absurd (omega (arith, some))
first_is_digit (y ∷ w) b r x some h at =
    let head : y ≡ x = (let k = at in cc) in
    subst (λ (z : ℕ). is_digit z ≡ true) head (and_parts (is_digit y) (list_all is_digit w) h).0

first_is : (w b r : List ℕ) (x : ℕ) → 0 < length w → x ∷ b ≡ w ++ r → get_or w 0 0 ≡ x
first_is [] b r x some at = absurd (omega (arith, some))
first_is (y ∷ w) b r x some at = (let k = at in cc)

pub none_of_none : (s : ℕ) (y : ℕ × List ℕ) → IsNumberTo s [] y → ⊥
none_of_none s y h = omega (arith, ap length h.1, length-append (decimal y.0) (s ∷ y.1))

pub none_without_digit : (s x : ℕ) (b : List ℕ) (y : ℕ × List ℕ) → is_digit x ≡ false → IsNumberTo s (x ∷ b) y → ⊥
none_without_digit s x b y e h =
    not_both (is_digit x) (first_is_digit (decimal y.0) b (s ∷ y.1) x (decimal_nonempty y.0 (omega (arith, h.0))) (decimal_digits y.0 (omega (arith, h.0))) h.1) e

-- after a number: nothing, another byte that is no digit, a digit after 0, or too many digits
pub none_at_end : (v s : ℕ) (y : ℕ × List ℕ) (bytes : List ℕ) → v < 2 ^ 32 → is_digit s ≡ false → bytes ≡ decimal v ++ [] → IsNumberTo s bytes y → ⊥
none_at_end v s y bytes lt e at h = only_digits (decimal v) (decimal y.0) y.1 s (decimal_digits v (omega arith)) e (sym (append-nil (decimal v)) ∙ sym at ∙ h.1)

pub none_before_other : (v s x : ℕ) (b : List ℕ) (y : ℕ × List ℕ) (bytes : List ℕ) → v < 2 ^ 32 → is_digit s ≡ false → is_digit x ≡ false → (x ≡ s → ⊥) → bytes ≡ decimal v ++ x ∷ b → IsNumberTo s bytes y → ⊥
none_before_other v s x b y bytes lt e n other at h =
    other (one_cut is_digit (decimal v) (decimal y.0) x s b y.1 (decimal_digits v (omega arith)) (decimal_digits y.0 (omega (arith, h.0))) n e (sym at ∙ h.1)).stop

zero_alone : (s d n : ℕ) (b r : List ℕ) → n < 2 ^ 32 → d < 10 → is_digit s ≡ false → 48 ∷ (48 + d) ∷ b ≡ decimal n ++ s ∷ r → ⊥
zero_alone s d zero b r lt small e at =
    let stop : 48 + d ≡ s = (let k = at ∙ ap (λ (x : List ℕ). x ++ s ∷ r) (decimal_digit 0 (omega arith)) in cc) in
    not_both (is_digit s) (subst (λ (z : ℕ). is_digit z ≡ true) stop (one_digit d small)) e
zero_alone s d (suc n) b r lt small e at =
    let first = first_is (decimal (suc n)) ((48 + d) ∷ b) (s ∷ r) 48 (decimal_nonempty (suc n) (omega arith)) at in
    omega (arith, first, first_decimal (suc n) (omega arith) (omega arith))

pub none_after_zero : (s d : ℕ) (b : List ℕ) (y : ℕ × List ℕ) (bytes : List ℕ) → is_digit s ≡ false → d < 10 → bytes ≡ decimal 0 ++ (48 + d) ∷ b → IsNumberTo s bytes y → ⊥
none_after_zero s d b y bytes e small at h =
    zero_alone s d y.0 b y.1 h.0 small e (sym (at ∙ ap (λ (x : List ℕ). x ++ (48 + d) ∷ b) (decimal_digit 0 (omega arith))) ∙ h.1)

pub none_too_large : (v s d : ℕ) (b : List ℕ) (y : ℕ × List ℕ) (bytes : List ℕ) → v < 2 ^ 32 → is_digit s ≡ false → d < 10 → 2 ^ 32 ≤ v * 10 + d → bytes ≡ decimal v ++ (48 + d) ∷ b → IsNumberTo s bytes y → ⊥
none_too_large v s d b y bytes lt e small large at h =
    let le = no_more (v * 10 + d) y.0 s b y.1 (omega arith) (omega (arith, h.0)) e (sym (one_more v d b (omega arith) small lt) ∙ sym at ∙ h.1) in
    omega (arith, le, h.0)
