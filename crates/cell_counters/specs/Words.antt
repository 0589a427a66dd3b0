-- The words of a new board, in one list: its numbers, then zeros for the length of the log and its slots.
use Rattle.std.specs.Prelude.{◌≡◌, ℕ, ◌+◌, ◌-◌, ◌≤◌, List, length, take, drop, replicate}

-- the last n numbers are 0
abbrev pub EndsInZeros : List ℕ → ℕ → Type 0
EndsInZeros words n = (n ≤ length words) × (drop (length words - n) words ≡ replicate n 0)

-- the numbers before the length of the log and its slots
abbrev pub numbers_before_log : List ℕ → ℕ → List ℕ
numbers_before_log words slots = take (length words - (1 + slots)) words
