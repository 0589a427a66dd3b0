use Rattle.std.proofs.Common.{◌≡◌, take, get_or}
use Rattle.pair_boxes.specs.inside.Digits.{slot_at}
use Rattle.pair_boxes.proofs.digits.slot_of.Given as goal

abbrev pub invariant-loop-d : goal.invariant-loop-d
invariant-loop-d l = l.slot ≡ slot_at (take l.d-index l.digits) (λ k. get_or l.indices k 0)
