use Rattle.std.proofs.Common.{refl, arith}
use Rattle.successor_box.proofs.LineValues.{lanes_of}
use Rattle.successor_box.proofs.cell_line.CellLine.lanes.Goals as goal

pub returns : goal.returns
returns c = λ cell centres. lanes_of c.args.p.now cell c.args.self.now c.variables.result _ c.variables.ensures.count (omega (arith, c.variables.ensures.bound)) refl refl refl centres
