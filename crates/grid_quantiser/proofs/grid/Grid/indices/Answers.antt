use Rattle.std.proofs.Common.{arith, ap, length}
use Rattle.grid_quantiser.proofs.Counts.{length-counts_of}
use Rattle.grid_quantiser.proofs.grid.Grid.indices.Goals as goal

pub returns-clause-along : goal.returns-clause-along
returns-clause-along c =
    let each = rw c.counts.ensures.same at c.decode.ensures.each in
    λ i within. each i (omega (arith, within, length-counts_of c.args.self.now))

pub returns-clause-past : goal.returns-clause-past
returns-clause-past c = λ i past.
    c.decode.ensures.past i (omega (arith, past, length-counts_of c.args.self.now, ap length c.counts.ensures.same))
