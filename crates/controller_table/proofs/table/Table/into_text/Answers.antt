use Rattle.std.proofs.Common.{◌≡◌, ap, ◌∙◌}
use Rattle.std.proofs.lemmas.Result.{IfOk-weaker}
use Rattle.controller_table.specs.TableText.{written_version}
use Rattle.controller_table.specs.Tables.{TableModel}
use Rattle.controller_table.specs.KindTexts.{RowsModel, table_text, bytes_of_rows}
use Rattle.controller_table.proofs.TableTexts.{table_held}
use Rattle.controller_table.proofs.table.Table.into_text.Goals as goal

pub of_one_turn-requires : goal.of_one_turn-requires
of_one_turn-requires c = table_held written_version c.self.inside.plant c.self.inside.answer c.self.invariant.0 c.self.invariant.1

pub returns-clause-text : goal.returns-clause-text
returns-clause-text c =
    let same = ap (λ (t : TableModel). table_text written_version t.plant t.rows) c.self.view_is in
    IfOk-weaker c.of_one_turn.result _ (λ (t : RowsModel). bytes_of_rows t ≡ table_text written_version c.args.self.plant c.args.self.rows) (λ t says. ap bytes_of_rows says ∙ same) c.of_one_turn.ensures
