-- The words of a new board, taken apart and put together.
use Rattle.std.proofs.Common.{◌≡◌, ℕ, ◌+◌, ◌-◌, List, ◌++◌, length, take, drop, replicate, sym, ap, ◌∙◌, arith, length-append}
use Rattle.std.proofs.Math.Seq.{take-append_seam, drop-append_seam}
use Rattle.std.proofs.lemmas.List.{take-append-drop, length-replicate}
use Rattle.cell_counters.specs.Words.{EndsInZeros, numbers_before_log}

-- its numbers, then zeros
pub words_split : (words : List ℕ) (slots : ℕ) → EndsInZeros words (1 + slots) → words ≡ numbers_before_log words slots ++ replicate (1 + slots) 0
words_split words slots ends = sym (take-append-drop (length words - (1 + slots)) words) ∙ ap (λ l. numbers_before_log words slots ++ l) ends.1

-- where the zeros begin
zeros_from : (numbers : List ℕ) (n : ℕ) → length (numbers ++ replicate n 0) - n ≡ length numbers
zeros_from numbers n = omega (arith, length-append numbers (replicate n 0), length-replicate {A = ℕ} n 0)

pub ends_in_zeros : (numbers : List ℕ) (n : ℕ) → EndsInZeros (numbers ++ replicate n 0) n
ends_in_zeros numbers n =
    (omega (arith, length-append numbers (replicate n 0), length-replicate {A = ℕ} n 0), ap (λ k. drop k (numbers ++ replicate n 0)) (zeros_from numbers n) ∙ drop-append_seam numbers (replicate n 0))

pub numbers_back : (numbers : List ℕ) (slots : ℕ) → numbers_before_log (numbers ++ replicate (1 + slots) 0) slots ≡ numbers
numbers_back numbers slots = ap (λ k. take k (numbers ++ replicate (1 + slots) 0)) (zeros_from numbers (1 + slots)) ∙ take-append_seam numbers (replicate (1 + slots) 0)
