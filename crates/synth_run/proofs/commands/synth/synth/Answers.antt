use Rattle.std.proofs.Common.{refl, sym, subst, ◌∙◌}
use Rattle.game_core.specs.Game.{Game}
use Rattle.plant_game.specs.Abstraction.{IsGameOf}
use Rattle.abstraction_table.specs.Table.{game_of}
use Rattle.controller_table.specs.Laws.{IsGraphOver}
use Rattle.controller_table.specs.TableText.{written_version}
use Rattle.controller_table.proofs.TableTexts.{table_held}
use Rattle.goal_solver.specs.GoalScratch.{goal_of}
use Rattle.synth_run.proofs.Leaving.{left, solved_on}
use Rattle.base.proofs.Results.{passed_on}
use Rattle.synth_run.proofs.Tables.{solution_fits, solution_table}
use Rattle.synth_run.proofs.commands.synth.synth.Goals as goal

pub of_one_turn-requires : goal.of_one_turn-requires
of_one_turn-requires g c =
    let p = c.in_ok-plant.plant in
    let game = game_of c.in_ok-game.game in
    let abstraction = subst (λ (h : Game). IsGameOf p h) (sym c.in_ok-game.ensures.game) c.in_ok-plant.ensures.game in
    let graph : IsGraphOver p game = record { graph = c.in_ok-game.game.boxed.in_memory.graph; cells = abstraction.cells; inputs = abstraction.inputs } in
    let fits = solution_fits p game c.solve-solved.result.answer (goal_of c.in_ok-scratch.scratch) (c.in_ok-scratch.ensures.goal ∙ c.goal.ensures) graph c.solve-solved.ensures.solution in
    table_held written_version p c.solve-solved.result.answer c.in_ok-plant.ensures.accepted.limits fits

pub returns-clause-made : goal.returns-clause-made
returns-clause-made g c =
    let p = c.in_ok-plant.plant in
    let accepted = c.in_ok-plant.ensures.accepted in
    let game = game_of c.in_ok-game.game in
    let abstraction = subst (λ (h : Game). IsGameOf p h) (sym c.in_ok-game.ensures.game) c.in_ok-plant.ensures.game in
    let same = c.in_ok-scratch.ensures.goal ∙ c.goal.ensures in
    let solved = c.solve-solved.result in
    rw c.in_ok-text.ensures
    (record {
      can_be_written = refl;
      answer = (p, accepted, c.in_ok-plant.ensures.solvable, solution_table p game solved.answer (goal_of c.in_ok-scratch.scratch) accepted.limits same c.in_ok-game.game.boxed.in_memory.graph abstraction c.solve-solved.ensures.solution);
      leaves = (p, accepted.limits, accepted, left p solved.board solved.root (solved_on p game (goal_of c.in_ok-scratch.scratch) solved same abstraction c.solve-solved.ensures));
    })

pub returns-in_err-plant-clause-refused : goal.returns-in_err-plant-clause-refused
returns-in_err-plant-clause-refused g c = passed_on c.from_residual.result c.in_err-plant.field-0.0 _ c.from_residual.ensures.1 c.in_err-plant.ensures.refused
