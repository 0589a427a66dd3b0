use Rattle.plant_refine.proofs.Arriving.{IsUnderWay}
use Rattle.plant_refine.proofs.driven.drive.Given as goal

abbrev pub invariant-loop-sample : goal.invariant-loop-sample
invariant-loop-sample l = IsUnderWay l.p l.t.rows l.x l.noises l.sample l.at
