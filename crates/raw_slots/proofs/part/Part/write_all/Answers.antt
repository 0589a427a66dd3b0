use Rattle.std.proofs.Common.{arith}
use Rattle.raw_slots.proofs.Written.{all_written}
use Rattle.raw_slots.proofs.part.Part.write_all.Goals as goal

pub write-requires : goal.write-requires
write-requires g c = (omega (arith, c.loop-k.invariant.many, c.loop-k-test.true), c.loop-k.invariant.empty c.loop-k.k (omega arith) c.loop-k-test.true)

pub returns-clause-contents : goal.returns-clause-contents
returns-clause-contents g c =
    all_written c.args.items.now c.loop-k.self.slots.contents c.loop-k.invariant.many
    (λ k d lt. c.loop-k.invariant.written k d (omega (arith, lt, c.loop-k-test.false)))
