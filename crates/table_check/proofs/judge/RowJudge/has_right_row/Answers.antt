use Rattle.std.proofs.Common.{◌∙◌, sym}
use Rattle.table_check.proofs.judge.RowJudge.has_right_row.Goals as goal

pub is_best-requires-clause-input : goal.is_best-requires-clause-input
is_best-requires-clause-input g c = c.requires.judged.inputs_are c.args.c c.in-Some.row (sym c.row-row.ensures ∙ c.in-Some.is)
