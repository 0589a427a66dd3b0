use Rattle.std.proofs.Common.{refl}
use Rattle.controller_table.specs.Tables.{IsTable}
use Rattle.plant_refine.proofs.SolutionTables.{tables_control}
use Rattle.command_outcomes.specs.Stages.{IsRowsRefusal}
use Rattle.text_abstraction.specs.Causes.{of_table}
use Rattle.base.proofs.Results.{passed_on}
use Rattle.synth_run.proofs.Tables.{table_stop, rows_stop}
use Rattle.synth_run.proofs.commands.check.check.Goals as goal

pub returns-clause-made : goal.returns-clause-made
returns-clause-made g c =
    let plant = c.in_ok-table.table.plant in
    let rows = c.in_ok-table.table.rows in
    let table : IsTable c.args.bytes.now plant rows = (c.in_ok-table.table.version, c.in_ok-table.ensures.read) in
    let judged = c.in_ok-check_table.ensures in
    rw c.of_text.ensures
    (record {
      can_be_written = tt;
      answer = (
        record {
          plant = plant;
          rows = rows;
          table = table;
          solvable = judged.solvable;
          solution = judged.solution;
          controls = tables_control c.args.bytes.now plant rows table judged.solution;
        },
        refl,
      );
      leaves = refl;
    })

pub returns-in_err-table-clause-refused : goal.returns-in_err-table-clause-refused
returns-in_err-table-clause-refused g c =
    passed_on c.from_residual.result (of_table c.in_err-table.field-0.0) _ c.from_residual.ensures.1 (table_stop IsRowsRefusal c.args.bytes.now c.in_err-table.field-0.0 c.in_err-table.ensures.refused)

pub returns-in_err-check_table-clause-refused : goal.returns-in_err-check_table-clause-refused
returns-in_err-check_table-clause-refused g c =
    let table = c.in_ok-table.table in
    passed_on c.from_residual-in_err-check_table.result c.in_err-check_table.field-0.0 _ c.from_residual-in_err-check_table.ensures.1
    (rows_stop IsRowsRefusal c.args.bytes.now table.plant table.rows c.in_err-check_table.field-0.0 (table.version, c.in_ok-table.ensures.read) c.in_err-check_table.ensures.refused)
