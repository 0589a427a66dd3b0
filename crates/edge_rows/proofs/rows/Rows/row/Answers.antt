use Rattle.std.proofs.Common.{arith}
use Rattle.edge_rows.proofs.Laid.{count, ordered, is_filled, is_row}
use Rattle.edge_rows.proofs.rows.Rows.row.Goals as goal

pub index-requires : goal.index-requires
index-requires c = omega (arith, c.requires, c.self.inside.starts.ok.0, count c.self.inside c.self.invariant c.args.self.now c.self.view_is)

pub index-requires-2 : goal.index-requires-2
index-requires-2 c = omega (arith, c.requires, c.self.inside.starts.ok.0, count c.self.inside c.self.invariant c.args.self.now c.self.view_is)

pub overflow_sub-end : goal.overflow_sub-end
overflow_sub-end c = ordered c.self.inside c.self.invariant c.args.self.now c.self.view_is c.args.r c.requires _ _ c.index.ensures c.index-2.ensures

pub slice-requires : goal.slice-requires
slice-requires c = is_filled c.self.inside c.self.invariant c.args.self.now c.self.view_is c.args.r c.requires _ _ c.index.ensures c.index-2.ensures

pub returns : goal.returns
returns c = is_row c.self.inside c.self.invariant c.args.self.now c.self.view_is c.args.r c.requires _ _ c.index.ensures c.index-2.ensures c.slice.result.now c.slice.ensures
