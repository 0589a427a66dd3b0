use Rattle.std.proofs.Common.{sym, ◌∙◌}
use Rattle.std.proofs.lemmas.Option.{none-some}
use Rattle.controller_table.proofs.RowsAtStates.{in_cell}
use Rattle.plant_refine.proofs.Choosing.{chooses_input}
use Rattle.plant_refine.proofs.Down.{LeadsLower, chosen_leads}
use Rattle.plant_refine.proofs.driven.next_state.Goals as goal
use Rattle.plant_refine.proofs.driven.next_state.Goals.{In-Some}

pub unreachable-requires : goal.unreachable-requires
unreachable-requires c =
    let row = c.requires.row in
    none-some row.0.input (c.in_default.ensures ∙ chooses_input c.args.p.now c.args.t.now.plant c.args.t.now.rows c.args.x.now row.0 c.requires.plant c.requires.goal row.1 row.2)

leads : (c : In-Some) → LeadsLower c.args.p.now c.args.t.now.rows c.args.x.now c.in-Some.input
leads c = chosen_leads c.args.p.now c.args.t.now.plant c.args.t.now.rows c.args.x.now c.in-Some.input c.requires.limits.plant c.requires.right c.requires.plant c.requires.goal (sym c.in-Some.ensures)

pub next_cell-requires-clause-inside : goal.next_cell-requires-clause-inside
next_cell-requires-clause-inside c = let row = c.requires.row in (in_cell c.args.p.now c.args.t.now.rows c.args.x.now row.0 row.1).0

pub next_cell-requires-clause-input : goal.next_cell-requires-clause-input
next_cell-requires-clause-input c = (leads (goal.at.next_cell-requires-clause-input c).In-Some).input

pub next_cell-requires-clause-enabled : goal.next_cell-requires-clause-enabled
next_cell-requires-clause-enabled c = (leads (goal.at.next_cell-requires-clause-enabled c).In-Some).enabled

pub returns-clause-lower : goal.returns-clause-lower
returns-clause-lower c = λ row has. (leads (goal.at.returns-clause-lower c).In-Some).lower c.args.noise.now c.next_cell.result.0 row c.requires.noise c.next_cell.ensures.step has
