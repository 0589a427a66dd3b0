-- Values of variables in many lanes at once: those of one variable in a column, the others the same in all lanes.
use Rattle.std.specs.Prelude.{◌≡◌, ℕ, ◌<◌, ℤ, pos, List, slice_index_or, slice_set, Option, MatchOption}
use Rattle.fixed_expr.specs.declared.lanes.TheConstants.{LANES}
use Rattle.expr_lanes.specs.declared.lane_eval.ValuesAlong.{ValuesAlong}
use Rattle.fixed_expr.specs.Expression.{Expression}
use Rattle.fixed_expr.specs.Value.{value_of}
use Rattle.fixed_expr.specs.NarrowValues.{StaysNarrow}

-- the values of the variables in lane k
abbrev pub lane_of : ValuesAlong → ℕ → List ℤ
lane_of v k = slice_set v.values.now v.along (slice_index_or v.column.now k (pos 0))

-- in each lane the value of every node lies in 64 bits, and so does every divisor
abbrev pub StaysNarrowInLanes : Expression → ValuesAlong → Type 0
StaysNarrowInLanes e v = (k : ℕ) → k < LANES → StaysNarrow e (lane_of v k)

-- the list holds the value in each lane at its position
abbrev pub AreValuesInLanes : Expression → ValuesAlong → List ℤ → Type 0
AreValuesInLanes e v found = (k : ℕ) → k < LANES → slice_index_or found k (pos 0) ≡ value_of e (lane_of v k)

-- an answer is given exactly where each lane stays in 64 bits, and then the list holds the values
abbrev pub EvaluatesLanes : {T : Type 0} → Option T → Expression → ValuesAlong → List ℤ → Type 0
EvaluatesLanes answer e v found = MatchOption answer (¬ (StaysNarrowInLanes e v)) (λ _. StaysNarrowInLanes e v × AreValuesInLanes e v found)
