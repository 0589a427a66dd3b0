use Rattle.std.proofs.Common.{sym, ap, subst, ◌∙◌}
use Rattle.controller_table.specs.KindTexts.{RowsModel, HoldsRows}
use Rattle.temporal_texts.proofs.StayRows.{rows_held}
use Rattle.temporal_texts.proofs.stay_table.StayTable.of.Goals as goal

pub invariant_of-result : goal.invariant_of-result
invariant_of-result c =
    let parts = c.into_parts-plant.ensures.parts in
    let held = subst HoldsRows (sym parts) c.into_parts-plant.ensures.holds in
    let kind = ap (λ (t : RowsModel). t.kind) parts ∙ c.requires in
    (held.limits, rows_held _ c.into_parts-plant.result.1 c.into_parts-plant.result.2 c.into_only.result kind c.into_only.ensures held.within)
