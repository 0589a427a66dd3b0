-- What an operation on the numbers in many lanes answers.
use Rattle.std.specs.Prelude.{◌≡◌, ℕ, ◌<◌, ℤ, pos, List, slice_index_or, Option, MatchOption}
use Rattle.fixed_expr.specs.declared.lanes.TheConstants.{LANES}
use Rattle.fixed_expr.specs.NarrowValues.{IsNarrow}

-- the number in a lane
abbrev pub at : List ℤ → ℕ → ℤ
at xs k = slice_index_or xs k (pos 0)

-- each number lies in 64 bits
abbrev pub AreNarrow : (ℕ → ℤ) → Type 0
AreNarrow wanted = (k : ℕ) → k < LANES → IsNarrow (wanted k)

-- the list holds each number in its lane
abbrev pub IsColumnOf : List ℤ → (ℕ → ℤ) → Type 0
IsColumnOf found wanted = (k : ℕ) → k < LANES → at found k ≡ wanted k

-- the list holds each number in its lane, and all lie in 64 bits
abbrev pub IsNarrowColumnOf : List ℤ → (ℕ → ℤ) → Type 0
IsNarrowColumnOf found wanted = AreNarrow wanted × IsColumnOf found wanted

-- an answer is given exactly where each number lies in 64 bits, and then the list holds them
abbrev pub AnswersLanes : {T : Type 0} → Option T → List ℤ → (ℕ → ℤ) → Type 0
AnswersLanes answer found wanted = MatchOption answer (¬ (AreNarrow wanted)) (λ _. IsNarrowColumnOf found wanted)

-- a list is given exactly where each number lies in 64 bits, and then it holds them in their lanes
abbrev pub AnswersColumn : Option (List ℤ) → (ℕ → ℤ) → Type 0
AnswersColumn answer wanted = MatchOption answer (¬ (AreNarrow wanted)) (λ found. IsNarrowColumnOf found wanted)
