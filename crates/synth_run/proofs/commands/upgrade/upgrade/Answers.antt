use Rattle.command_outcomes.specs.Stages.{IsOverflow}
use Rattle.text_abstraction.specs.Causes.{of_table}
use Rattle.base.proofs.Results.{passed_on}
use Rattle.synth_run.proofs.Tables.{table_stop}
use Rattle.synth_run.proofs.commands.upgrade.upgrade.Goals as goal

pub returns-in_err-table-clause-refused : goal.returns-in_err-table-clause-refused
returns-in_err-table-clause-refused c =
    passed_on c.from_residual.result (of_table c.in_err-table.field-0.0) _ c.from_residual.ensures.1 (table_stop (λ p rows r. IsOverflow p r) c.args.bytes.now c.in_err-table.field-0.0 c.in_err-table.ensures.refused)
