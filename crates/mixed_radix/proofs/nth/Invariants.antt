use Rattle.mixed_radix.proofs.Boxes.{IsFound}
use Rattle.mixed_radix.proofs.nth.Given as goal

abbrev pub invariant-loop-k : goal.invariant-loop-k
invariant-loop-k l = IsFound l.counts l.distance l.i l.k l.stride l.rest l.left l.nth
