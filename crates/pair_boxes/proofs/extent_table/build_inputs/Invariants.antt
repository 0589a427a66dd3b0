use Rattle.std.proofs.Common.{◌≡◌, ℕ, map}
use Rattle.std.specs.List.{range_with_len}
use Rattle.successor_box.specs.PairExtents.{index_in}
use Rattle.pair_boxes.specs.inside.Digits.{slot_at}
use Rattle.pair_boxes.proofs.extent_table.build_inputs.Given as goal

-- the inputs so far
abbrev pub invariant-loop-input : goal.invariant-loop-input
invariant-loop-input l = l.inputs.items ≡ map (λ (u : ℕ). slot_at l.digits.each.items (index_in l.of.sampled.plant.now 0 u)) (range_with_len 0 l.input)
