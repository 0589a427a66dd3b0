use Rattle.std.proofs.Common.{◌≡◌, ℕ, ◌<◌, map}
use Rattle.std.specs.List.{range_with_len}
use Rattle.successor_box.specs.SuccessorBoxes.{deviation_at}
use Rattle.plant_record.specs.Steps.{equation_at}
use Rattle.successor_box.specs.Deviations.{HasNoOverflowAt}
use Rattle.successor_box.proofs.slopes.deviations_along.Given as goal

-- the deviations so far
abbrev pub invariant-loop-input : goal.invariant-loop-input
invariant-loop-input l = record {
  so_far : l.deviations.items ≡ map (λ u. deviation_at l.p u (equation_at l.p l.equation)) (range_with_len 0 l.input);
  fits : (u : ℕ) → u < l.input → HasNoOverflowAt l.p l.equation u;
}
