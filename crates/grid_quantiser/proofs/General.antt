-- What holds of any quotients and any lists.
use Rattle.std.proofs.Common.{◌≡◌, ℕ, zero, suc, ◌+◌, ◌-◌, ◌*◌, ◌/◌, ◌%◌, ◌<◌, ◌≤◌, arith, ap, sym, ◌∙◌, List, length, map, get_or, inl, inr}
use Rattle.std.specs.List.{flat_map, range_with_len}
use Rattle.std.proofs.Math.Nat.{add-mul, mul-le-mul_right, lt-div-mul-add, mod-eq_of_lt, div-eq_of_lt, add-div_left, add-mod_left}
use Rattle.std.proofs.lemmas.Bool.{cases_lt}
use Rattle.std.proofs.lemmas.Nat.{div-add-mod', div-mul-add, mod-mul-add, mod_below}
use Rattle.std.proofs.lemmas.List.{length-append, length-map, get_or_append_left, get_or-append_right, get_or-map}

-- ---- quotients

-- a factor past a quotient makes a product past the whole
pub past_quotient : (a b m : ℕ) → 0 < b → a / b < m → a < m * b
past_quotient a b m some past =
    let row : (a / b + 1) * b ≤ m * b = mul-le-mul_right b (omega arith) in
    omega (arith, row, lt-div-mul-add {a = a} some, add-mul (a / b) 1 b)

-- the index and the rest of a difference are the differences of the indices and of the rests
pub difference_parts : (f l n : ℕ) → 0 < n → f / n ≤ l / n → f % n ≤ l % n → ((l - f) / n ≡ l / n - f / n) × ((l - f) % n ≡ l % n - f % n)
difference_parts f l n some indices rests =
    let short : l % n - f % n < n = omega (arith, mod_below l n some) in
    let split : l / n ≡ f / n + (l / n - f / n) = omega (arith, indices) in
    let product : l / n * n ≡ f / n * n + (l / n - f / n) * n = ap (λ (k : ℕ). k * n) split ∙ add-mul (f / n) (l / n - f / n) n in
    let whole : l - f ≡ (l / n - f / n) * n + (l % n - f % n) = omega (arith, div-add-mod' l n, div-add-mod' f n, product, rests) in
    (ap (λ (k : ℕ). k / n) whole ∙ div-mul-add (l / n - f / n) n (l % n - f % n) short, ap (λ (k : ℕ). k % n) whole ∙ mod-mul-add (l / n - f / n) n (l % n - f % n) short)

-- the last number below a product, by its second factor
pub last_parts : (m n : ℕ) → 0 < m → 0 < n → ((m * n - 1) / n ≡ m - 1) × ((m * n - 1) % n ≡ n - 1)
last_parts m n some_m some =
    let below : n - 1 < n = omega arith in
    let less : m - 1 + 1 ≡ m = omega arith in
    let whole : m * n - 1 ≡ (m - 1) * n + (n - 1) = omega (arith, add-mul (m - 1) 1 n, ap (λ (k : ℕ). k * n) less) in
    (ap (λ (k : ℕ). k / n) whole ∙ div-mul-add (m - 1) n (n - 1) below, ap (λ (k : ℕ). k % n) whole ∙ mod-mul-add (m - 1) n (n - 1) below)

-- half a width, rounded down
pub half : (w : ℕ) → 0 < w → (w / 2 + 1 ≤ w) × (w ≤ w / 2 + w / 2 + 1)
half w some = (omega arith, omega arith)

-- ---- lists

-- a list repeated at each of consecutive indices, n numbers apart
abbrev pub blocks : ℕ → List ℕ → ℕ → ℕ → List ℕ
blocks n part start count = flat_map (λ index. map (λ c. index * n + c) part) (range_with_len start count)

pub length-blocks : (n : ℕ) (part : List ℕ) (start count : ℕ) → length (blocks n part start count) ≡ count * length part
length-blocks n part start zero = omega arith
length-blocks n part start (suc count) =
    length-append (map (λ c. start * n + c) part) (blocks n part (start + 1) count)
    ∙ omega (arith, length-map part (λ c. start * n + c), length-blocks n part (start + 1) count, add-mul 1 count (length part))

pub get_or-blocks : (n : ℕ) (part : List ℕ) (start count i : ℕ) → i < count * length part →
    get_or (blocks n part start count) i 0 ≡ (start + i / length part) * n + get_or part (i % length part) 0
get_or-blocks n part start zero i within = absurd (omega (arith, within))
get_or-blocks n part start (suc count) i within =
    let m : ℕ = length part in
    let here : List ℕ = map (λ c. start * n + c) part in
    let long : length here ≡ m = length-map part (λ c. start * n + c) in
    elim (cases_lt i m) [
      | inl first ↦
          let short : i < length here = omega (arith, long, first) in
          let same_index : start + i / m ≡ start = omega (arith, div-eq_of_lt first) in
          get_or_append_left here (blocks n part (start + 1) count) 0 i short
          ∙ get_or-map (λ c. start * n + c) part i 0 0 first
          ∙ ap (λ k. start * n + get_or part k 0) (sym (mod-eq_of_lt first))
          ∙ ap (λ k. k * n + get_or part (i % m) 0) (sym same_index)
      | inr later ↦
          let some : 0 < m = elim (cases_lt 0 m) [ inl some ↦ some | inr none ↦ let no : m ≡ 0 = omega (arith, none) in absurd (omega (arith, within, ap (λ k. suc count * k) no)) ] in
          let whole : i ≡ m + (i - m) = omega (arith, later) in
          let rest : i - m < count * m = omega (arith, within, later, add-mul 1 count m) in
          let quotient : i / m ≡ (i - m) / m + 1 = ap (λ k. k / m) whole ∙ add-div_left (i - m) some in
          let remainder : i % m ≡ (i - m) % m = ap (λ k. k % m) whole ∙ add-mod_left m (i - m) in
          let next : start + 1 + (i - m) / m ≡ start + i / m = omega (arith, quotient) in
          get_or-append_right here (blocks n part (start + 1) count) m i 0 long later
          ∙ get_or-blocks n part (start + 1) count (i - m) rest
          ∙ ap (λ k. k * n + get_or part ((i - m) % m) 0) next
          ∙ ap (λ k. (start + i / m) * n + get_or part k 0) (sym remainder)
    ]
