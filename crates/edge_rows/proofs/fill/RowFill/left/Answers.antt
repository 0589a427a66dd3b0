use Rattle.std.proofs.Common.{arith}
use Rattle.edge_rows.proofs.Fillings.{next_listed, forward, left_of_one_more, left_of_all}
use Rattle.edge_rows.proofs.fill.RowFill.left.Goals as goal

pub index-requires : goal.index-requires
index-requires c = omega (arith, c.self.inside.starts.ok.0, next_listed c.self.inside c.self.invariant c.args.self.now c.self.view_is c.loop-row.row (omega (arith, c.loop-row-test.true, c.len-row-end.ensures, c.self.inside.ends.ok.0)))

pub overflow_sub-index : goal.overflow_sub-index
overflow_sub-index c =
    forward c.self.inside c.self.invariant c.args.self.now c.self.view_is c.loop-row.row (omega (arith, c.loop-row-test.true, c.len-row-end.ensures, c.self.inside.ends.ok.0)) _ _ c.index-in-loop-row.ensures c.index.ensures

pub loop-row-preserved : goal.loop-row-preserved
loop-row-preserved c =
    rw c.from-left.ensures
    (left_of_one_more c.self.inside c.self.invariant c.args.self.now c.self.view_is c.loop-row.row (omega (arith, c.loop-row-test.true, c.len-row-end.ensures, c.self.inside.ends.ok.0)) _ _ c.index-in-loop-row.ensures c.index.ensures c.loop-row.left c.loop-row.invariant)

pub returns : goal.returns
returns c =
    left_of_all c.self.inside c.self.invariant c.args.self.now c.self.view_is c.loop-row.row c.loop-row.left (omega (arith, c.loop-row-test.false, c.len-row-end.ensures, c.self.inside.ends.ok.0)) c.loop-row.invariant
