use Rattle.std.proofs.Common.{List, refl, ap, ◌∙◌}
use Rattle.std.specs.Prelude.{ℤ}
use Rattle.controller_table.specs.Choice.{row_at}
use Rattle.loop_sim.specs.TraceText.{trace_text}
use Rattle.command_outcomes.specs.Stages.{IsStartRefusal}
use Rattle.text_abstraction.specs.Causes.{of_table}
use Rattle.base.proofs.Results.{passed_on}
use Rattle.synth_run.proofs.Tables.{table_stop, rows_stop}
use Rattle.synth_run.proofs.commands.sim.sim.Goals as goal

pub returns-clause-made : goal.returns-clause-made
returns-clause-made c =
    let table = c.in_ok-table.table in
    let begins = c.in_ok-refuse_start.ensures.begins in
    rw c.of_text.ensures
    (record {
      can_be_written = record {
        fits = c.in_ok-refuse_start.ensures.fits;
        samples = c.requires;
        row = begins.row;
        begins = ap (λ (x : List ℤ). row_at table.plant table.rows x) c.point.ensures ∙ begins.has;
      };
      answer = record {
        plant = table.plant;
        rows = table.rows;
        table = (table.version, c.in_ok-table.ensures.read);
        fits = c.in_ok-refuse_start.ensures.fits;
        begins = begins;
        text_is = ap (λ (x : List ℤ). trace_text table.plant table.rows x c.args.seed c.args.samples) c.point.ensures;
      };
      leaves = refl;
    })

pub returns-in_err-table-clause-refused : goal.returns-in_err-table-clause-refused
returns-in_err-table-clause-refused c =
    passed_on c.from_residual.result (of_table c.in_err-table.field-0.0) _ c.from_residual.ensures.1 (table_stop (IsStartRefusal c.args.start.now) c.args.bytes.now c.in_err-table.field-0.0 c.in_err-table.ensures.refused)

pub returns-in_err-refuse_start-clause-refused : goal.returns-in_err-refuse_start-clause-refused
returns-in_err-refuse_start-clause-refused c =
    let table = c.in_ok-table.table in
    passed_on c.from_residual-in_err-refuse_start.result c.in_err-refuse_start.field-0.0 _ c.from_residual-in_err-refuse_start.ensures.1
    (rows_stop (IsStartRefusal c.args.start.now) c.args.bytes.now table.plant table.rows c.in_err-refuse_start.field-0.0 (table.version, c.in_ok-table.ensures.read) c.in_err-refuse_start.ensures.refused)
