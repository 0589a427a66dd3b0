-- The laws of numbers and their digits.
use Rattle.std.proofs.Common.{◌≡◌, ℕ, zero, suc, ◌+◌, ◌*◌, ◌/◌, ◌%◌, ◌<◌, ◌≤◌, arith, refl, ap, sym, ◌∙◌, List, [], ◌∷◌, length, take, drop, get_or}
use Rattle.std.proofs.lemmas.List.{drop_more}
use Rattle.std.proofs.lemmas.Nat.{div-add-mod', div-mul-add, mod-mul-add, mod_below, div_below}
use Rattle.mixed_radix.specs.Radix.{size, stride, number, digits, digit, AreDigits, AreDigitsOf}
use Rattle.mixed_radix.proofs.Steps.{tail_digits, number_below, factors}

-- ---- digits of numbers, and numbers of digits

pub length-digits : (counts : List ℕ) (c : ℕ) → length (digits counts c) ≡ length counts
length-digits [] c = refl
length-digits (n ∷ counts) c = ap suc (length-digits counts (c % size counts))

some_size : (counts : List ℕ) (c : ℕ) → c < size counts → 0 < size counts
some_size counts c below = omega (arith, below)

each_below : (counts : List ℕ) (c k : ℕ) → c < size counts → k < length counts → get_or (digits counts c) k 0 < get_or counts k 0
each_below [] c k below within = absurd (omega (arith, within))
each_below (n ∷ counts) c zero below within = div_below c (size counts) n (factors n (size counts) (some_size (n ∷ counts) c below)).1 below
each_below (n ∷ counts) c (suc k) below within =
    each_below counts (c % size counts) k (mod_below c (size counts) (factors n (size counts) (some_size (n ∷ counts) c below)).1) (omega (arith, within))

number_is : (counts : List ℕ) (c : ℕ) → c < size counts → number counts (digits counts c) ≡ c
number_is [] c below = omega (arith, below)
number_is (n ∷ counts) c below =
    let some : 0 < size counts = (factors n (size counts) (some_size (n ∷ counts) c below)).1 in
    ap (λ (r : ℕ). c / size counts * size counts + r) (number_is counts (c % size counts) (mod_below c (size counts) some)) ∙ div-add-mod' c (size counts)

pub number-digits : (counts : List ℕ) (c : ℕ) → c < size counts → AreDigitsOf counts c (digits counts c)
number-digits counts c below = record {
  are = record { long = omega (arith, length-digits counts c); below = λ k within. each_below counts c k below within };
  number_is = number_is counts c below;
}

-- ---- numbers of two numbers

pub number_parts : (counts ds : List ℕ) (k : ℕ) → k ≤ length counts → length counts ≤ length ds →
    (number counts ds ≡ number (take k counts) (take k ds) * size (drop k counts) + number (drop k counts) (drop k ds)) × (size counts ≡ size (take k counts) * size (drop k counts))
number_parts counts ds zero within long = (omega arith, omega arith)
number_parts [] ds (suc k) within long = absurd (omega (arith, within))
number_parts (n ∷ counts) [] (suc k) within long = absurd (omega (arith, long))
number_parts (n ∷ counts) (d ∷ ds) (suc k) within long =
    let rest = number_parts counts ds k (omega (arith, within)) (omega (arith, long)) in
    (omega (arith, rest.0, ap (λ (m : ℕ). d * m) rest.1), omega (arith, ap (λ (m : ℕ). n * m) rest.1))

-- the later digits
pub digits_later : (counts ds : List ℕ) (k : ℕ) → AreDigits counts ds → AreDigits (drop k counts) (drop k ds)
digits_later counts ds zero are = are
digits_later [] ds (suc k) are = record { long = omega arith; below = λ j lt. absurd (omega (arith, lt)) }
digits_later (n ∷ counts) [] (suc k) are = absurd (omega (arith, are.long))
digits_later (n ∷ counts) (d ∷ ds) (suc k) are = digits_later counts ds k (tail_digits n d counts ds are)

-- a digit is what is left of the quotient by its stride, also of a number with whole turns before the digits
pub digit_after : (counts ds : List ℕ) (c turns k : ℕ) → AreDigits counts ds → turns * size counts + number counts ds ≡ c → k < length counts → digit counts k c ≡ get_or ds k 0
digit_after counts ds c turns k are is within =
    let n : ℕ = get_or counts k 0 in
    let d : ℕ = get_or ds k 0 in
    let s : ℕ = stride counts k in
    let t : ℕ = size (take k counts) in
    let first : ℕ = turns * t + number (take k counts) (take k ds) in
    let r : ℕ = number (drop (k + 1) counts) (drop (k + 1) ds) in
    let long : k < length ds = omega (arith, are.long, within) in
    let both = number_parts counts ds k (omega (arith, within)) are.long in
    let parts : number counts ds ≡ (number (take k counts) (take k ds) * n + d) * s + r = both.0 ∙ rw (drop_more counts k 0 within, drop_more ds k 0 long) (omega arith) in
    let whole : size counts ≡ t * (n * s) = both.1 ∙ rw (drop_more counts k 0 within) refl in
    let all : c ≡ (first * n + d) * s + r = omega (arith, is, parts, ap (λ (m : ℕ). turns * m) whole) in
    let rest : r < s = number_below (drop (k + 1) counts) (drop (k + 1) ds) (digits_later counts ds (k + 1) are) in
    ap (λ (m : ℕ). m / s % n) all ∙ ap (λ (m : ℕ). m % n) (div-mul-add (first * n + d) s r rest) ∙ mod-mul-add first n d (are.below k within)

pub digit_is : (counts ds : List ℕ) (c k : ℕ) → AreDigitsOf counts c ds → k < length counts → digit counts k c ≡ get_or ds k 0
digit_is counts ds c k of within = digit_after counts ds c 0 k of.are (omega (arith, of.number_is)) within

-- ---- what a number depends on

pub number_same : (counts ds es : List ℕ) → length counts ≤ length ds → length counts ≤ length es →
    ((k : ℕ) → k < length counts → get_or ds k 0 ≡ get_or es k 0) → number counts ds ≡ number counts es
number_same [] ds es long_ds long_es same = refl
number_same (n ∷ counts) [] es long_ds long_es same = absurd (omega (arith, long_ds))
number_same (n ∷ counts) (d ∷ ds) [] long_ds long_es same = absurd (omega (arith, long_es))
number_same (n ∷ counts) (d ∷ ds) (e ∷ es) long_ds long_es same =
    let later = number_same counts ds es (omega (arith, long_ds)) (omega (arith, long_es)) (λ k lt. same (suc k) (omega (arith, lt))) in
    omega (arith, later, ap (λ (m : ℕ). m * size counts) (same 0 (omega arith)))

-- a number has its digits and no others
pub the_digits : (counts ds : List ℕ) (c k : ℕ) → AreDigitsOf counts c ds → k < length counts → get_or ds k 0 ≡ get_or (digits counts c) k 0
the_digits counts ds c k of within =
    let below : c < size counts = omega (arith, number_below counts ds of.are, of.number_is) in
    sym (digit_is counts ds c k of within) ∙ digit_is counts (digits counts c) c k (number-digits counts c below) within
