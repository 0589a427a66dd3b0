use Rattle.std.proofs.Common.{List, ℕ, ◌++◌, sym, ap, ◌∙◌}
use Rattle.std.specs.List.{concat}
use Rattle.plant_writing.specs.CanonicalText.{text_of}
use Rattle.row_runs.specs.declared.run.TableVersion.{TableVersion}
use Rattle.row_runs.specs.declared.run.TableVersion.TheVariants.{Second}
use Rattle.row_runs.proofs.FramedRows.{framed_lines}
use Rattle.row_reading.specs.declared.row_rules.TurnRules.{TurnRules}
use Rattle.row_reading.specs.RowsTexts.{lines_by, lines_from}
use Rattle.controller_table.specs.TextKinds.{first_line, turn_rules}
use Rattle.controller_table.proofs.rows_writer.RowsWriter.new.Goals as goal

pub returns : goal.returns
returns c =
    let kind = c.args.kind in
    let p = c.args.p.now in
    let turns = c.args.turns.now in
    let rules = turn_rules kind p in
    let header = c.in_ok-header.ensures ∙ ap (λ (x : List ℕ). x ++ text_of p) c.first_line.ensures in
    let lines = c.new-lines.ensures
    ∙ ap (λ (r : TurnRules). concat (lines_by r.head Second r.rows.format 0 turns)) c.rules-rules.ensures
    ∙ ap (λ (v : TableVersion). concat (lines_by rules.head v rules.rows.format 0 turns)) (sym c.requires.written) in
    c.new.ensures
    ∙ framed_lines (first_line kind ++ text_of p) _ _ (lines_from rules 0 turns) header lines
