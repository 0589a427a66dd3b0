-- The value of a variable in a lane: that in the column of its lanes, or the one that it has in all.
use Rattle.std.proofs.Common.{◌≡◌, ℕ, ◌<◌, ◌≢◌, length}
use Rattle.std.specs.Prelude.{pos, slice_index_or}
use Rattle.std.proofs.lemmas.List.{get_or-set_same, get_or-set_other}
use Rattle.expr_lanes.specs.LaneEval.{lane_of}
use Rattle.expr_lanes.specs.declared.lane_eval.ValuesAlong.{ValuesAlong}

pub value_along : (v : ValuesAlong) (k : ℕ) → v.along < length v.values.now → slice_index_or (lane_of v k) v.along (pos 0) ≡ slice_index_or v.column.now k (pos 0)
value_along v k within = get_or-set_same v.values.now v.along (slice_index_or v.column.now k (pos 0)) (pos 0) within

pub value_elsewhere : (v : ValuesAlong) (i k : ℕ) → i ≢ v.along → slice_index_or (lane_of v k) i (pos 0) ≡ slice_index_or v.values.now i (pos 0)
value_elsewhere v i k other = get_or-set_other v.values.now v.along i (slice_index_or v.column.now k (pos 0)) (pos 0) other
