use Rattle.mixed_radix.proofs.Boxes.{IsCounted}
use Rattle.mixed_radix.proofs.box_size.Given as goal

abbrev pub invariant-loop-k : goal.invariant-loop-k
invariant-loop-k l = IsCounted l.counts l.distance l.k l.rest l.size
