use Rattle.std.proofs.Common.{map, length, refl, ap, ◌∙◌}
use Rattle.edge_rows.proofs.Laid.{shown, kept, full, finish_stores}
use Rattle.edge_rows.proofs.fill.RowFill.finish.Goals as goal

pub invariant_of-result : goal.invariant_of-result
invariant_of-result c = kept _ c.args.self.rows (finish_stores c.self.inside c.self.invariant c.args.self c.self.view_is c.requires _ refl refl)

pub returns-clause-rows : goal.returns-clause-rows
returns-clause-rows c =
    shown (record { block = c.self.inside.block; starts = c.self.inside.starts }) c.args.self.rows (finish_stores c.self.inside c.self.invariant c.args.self c.self.view_is c.requires _ refl refl)

pub returns-clause-full : goal.returns-clause-full
returns-clause-full c = ap (map length) (returns-clause-rows c) ∙ full c.self.inside c.self.invariant c.args.self c.self.view_is c.requires
