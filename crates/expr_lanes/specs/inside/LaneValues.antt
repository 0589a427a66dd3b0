-- Values in many lanes, which may all be the same.
use Rattle.std.specs.Prelude.{◌≡◌, ℕ, ◌<◌, ℤ, pos, List, slice_index_or, Option, MatchOption}
use Rattle.fixed_expr.specs.declared.lanes.TheConstants.{LANES}
use Rattle.expr_lanes.specs.declared.lane_eval.LaneValues.{LaneValues}
use Rattle.expr_lanes.specs.declared.lane_eval.ValuesAlong.{ValuesAlong}
use Rattle.expr_lanes.specs.declared.lane_eval.LaneValues.TheVariants.{Alike, Listed}
use Rattle.fixed_expr.specs.declared.operation.Binary.{Binary}
use Rattle.fixed_expr.specs.Expression.{Expression}
use Rattle.fixed_expr.specs.Value.{value_of}
use Rattle.fixed_expr.specs.Lanes.{AreNarrow}
use Rattle.expr_lanes.specs.LaneEval.{lane_of, StaysNarrowInLanes}
use Rattle.fixed_expr.specs.inside.Combinations.{combined_number}

-- the value in lane k: one that is the same in all lanes, or that in the list
abbrev pub value_in : LaneValues → List ℤ → ℕ → ℤ
value_in (Alike z) lanes k = z
value_in Listed lanes k = slice_index_or lanes k (pos 0)

-- the numbers that a binary operation makes of two values, lane by lane
abbrev pub combined_numbers : Binary → LaneValues → List ℤ → LaneValues → List ℤ → (ℕ → ℤ)
combined_numbers binary a lanes b others = λ k. combined_number binary (value_in a lanes k) (value_in b others k)

-- the values are these numbers, and all lie in 64 bits
abbrev pub AreNumbers : LaneValues → List ℤ → (ℕ → ℤ) → Type 0
AreNumbers values lanes wanted = AreNarrow wanted × ((k : ℕ) → k < LANES → value_in values lanes k ≡ wanted k)

-- an answer is given exactly where each number lies in 64 bits, and then the values are these
abbrev pub AnswersNumbers : Option LaneValues → List ℤ → (ℕ → ℤ) → Type 0
AnswersNumbers answer lanes wanted = MatchOption answer (¬ (AreNarrow wanted)) (λ values. AreNumbers values lanes wanted)

-- an answer is given exactly where each lane stays in 64 bits, and then it gives the value in each lane
abbrev pub AnswersValues : Option LaneValues → Expression → ValuesAlong → List ℤ → Type 0
AnswersValues answer e v lanes =
    MatchOption answer (¬ (StaysNarrowInLanes e v)) (λ values. StaysNarrowInLanes e v × ((k : ℕ) → k < LANES → value_in values lanes k ≡ value_of e (lane_of v k)))
