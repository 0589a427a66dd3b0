use Rattle.std.proofs.Common.{arith}
use Rattle.successor_box.proofs.LineValues.{input_set}
use Rattle.successor_box.proofs.cell_line.CellLine.set_input.Goals as goal

pub returns-clause-kept : goal.returns-clause-kept
returns-clause-kept c = λ cell centres.
    let p = c.args.sampled.now.plant.now in
    let plant = c.args.sampled.now.within.plant in
    let so_far = c.loop-k.invariant in
    rw (so_far.along, so_far.column)
    (input_set p cell c.args.input c.args.self.now c.loop-k.self.values c.requires (omega (arith, plant.states_bound)) (omega (arith, so_far.long, plant.states_bound))
    (λ k within. so_far.set k (omega (arith, within, c.loop-k-test.false, c.input_variables-k-end.ensures))) so_far.others centres)
