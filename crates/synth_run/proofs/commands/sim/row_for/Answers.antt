use Rattle.std.proofs.Common.{◌≡◌, ◌∙◌, List, length, ap, rules}
use Rattle.std.specs.Prelude.{ℤ}
use Rattle.controller_table.specs.Choice.{row_at}
use Rattle.synth_run.proofs.Simulations.{row_found}
use Rattle.synth_run.proofs.commands.sim.row_for.Goals as goal

pub returns-clause-found : goal.returns-clause-found
returns-clause-found c =
    let table = c.args.table.now in
    let start = c.args.start.now in
    let same : length start ≡ length table.plant.states = search rules in
    row_found table.plant table.rows start c.row_at.result same (c.row_at.ensures ∙ ap (λ (x : List ℤ). row_at table.plant table.rows x) c.point.ensures)
