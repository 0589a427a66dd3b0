use Rattle.std.proofs.Common.{◌+◌, refl, ap, arith}
use Rattle.std.specs.Vec.{with_item}
use Rattle.edge_rows.specs.Rows.{Filling, with_value}
use Rattle.edge_rows.specs.inside.FillFields.{IsFilledAs}
use Rattle.edge_rows.proofs.Fillings.{shown, kept, end_listed, end_small, end_free_there, put_lies}
use Rattle.edge_rows.proofs.fill.RowFill.put.Goals as goal

pub index-end-requires : goal.index-end-requires
index-end-requires c = omega (arith, c.self.inside.ends.ok.0, end_listed c.self.inside c.self.invariant c.args.self.now c.self.view_is c.args.row c.requires)

pub write-requires : goal.write-requires
write-requires c = end_free_there c.self.inside c.self.invariant c.args.self.now c.self.view_is c.args.row c.requires _ c.index-end.ensures

pub overflow_add-end : goal.overflow_add-end
overflow_add-end c =
    record { fits = omega (arith, end_small c.self.inside c.self.invariant c.args.self.now c.self.view_is c.args.row c.requires _ c.index-end.ensures) }

pub index_mut-requires : goal.index_mut-requires
index_mut-requires c = omega (arith, c.self.inside.ends.ok.0, end_listed c.self.inside c.self.invariant c.args.self.now c.self.view_is c.args.row c.requires)

after : (c : goal.After-self-1)
    → IsFilledAs (record { block = c.write.new.self; starts = c.self.inside.starts; ends = with_item c.self.inside.ends c.args.row (c.index-end.result.now + 1) })
    (record { rows = with_value c.args.self.now.rows c.args.row c.args.value; lengths = c.args.self.now.lengths })
after c = put_lies c.self.inside c.self.invariant c.args.self.now c.self.view_is c.args.row c.requires _ c.index-end.ensures _ c.args.value c.write.ensures refl refl

pub invariant_of-self : goal.invariant_of-self
invariant_of-self c = kept _ _ (after c)

pub returns-clause-rows : goal.returns-clause-rows
returns-clause-rows c = ap (λ (w : Filling). w.rows) (shown _ _ (after c))
