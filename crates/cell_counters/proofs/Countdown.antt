-- Subtraction modulo 2^64, and what the cuts leave one after another.
use Rattle.std.proofs.Common.{◌≡◌, ℕ, ◌+◌, ◌-◌, ◌%◌, ◌^◌, ◌<◌, ◌≤◌, [], ◌∷◌, ◌++◌, length, get_or, sym, subst, arith, All}
use Rattle.std.specs.List.{range_with_len}
use Rattle.std.proofs.lemmas.List.Elements.{All-map}
use Rattle.std.proofs.lemmas.List.FromFn.{map-range_with_len_more, length-range_with_len, get_or-range_with_len}
use Rattle.cell_counters.specs.Accounts.{minus, lefts}

pub minus-zero : (s : ℕ) → s < 2 ^ 64 → minus s 0 ≡ s
minus-zero s small = omega arith

-- one cut more
pub minus-more : (s n : ℕ) → (minus s n + (2 ^ 64 - 1)) % 2 ^ 64 ≡ minus s (n + 1)
minus-more s n = omega arith

-- twice from one number gives what was taken
pub minus-minus : (s j : ℕ) → j < 2 ^ 64 → minus s (minus s j) ≡ j
minus-minus s j small = omega arith

pub lefts-more : (s n : ℕ) → lefts s (n + 1) ≡ lefts s n ++ minus s (n + 1) ∷ []
lefts-more s n = map-range_with_len_more (minus s) 1 n (n + 1) (omega arith)

-- the number of each of the first n cuts is at most n
pub numbers_below : (s n : ℕ) → n < 2 ^ 64 → All (λ answer. minus s answer ≤ n) (lefts s n)
numbers_below s n small = All-map (λ answer. minus s answer ≤ n) (minus s) (range_with_len 1 n)
    (λ k d lt.
    let len : length (range_with_len 1 n) ≡ n = length-range_with_len 1 n in
    let at : get_or (range_with_len 1 n) k d ≡ 1 + k = get_or-range_with_len 1 n k d (omega arith) in
    subst (λ j. minus s (minus s j) ≤ n) (sym at) (subst (λ j. j ≤ n) (sym (minus-minus s (1 + k) (omega arith))) (omega arith)))
