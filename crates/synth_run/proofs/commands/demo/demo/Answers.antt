use Rattle.std.proofs.Common.{◌≡◌, ℕ, refl, sym, subst, ◌∙◌}
use Rattle.game_core.specs.Game.{Game}
use Rattle.plant_record.specs.declared.aims.GoalKind.TheVariants.{Reach}
use Rattle.plant_game.specs.Abstraction.{IsGameOf}
use Rattle.abstraction_table.specs.Table.{game_of}
use Rattle.goal_solver.specs.GoalScratch.{goal_of}
use Rattle.demo_plants.specs.Demo.{demo_plant_of}
use Rattle.demo_plants.proofs.Texts.{texts_spell}
use Rattle.text_abstraction.specs.Causes.{without_memory}
use Rattle.text_abstraction.specs.declared.stop.Stop.{Stop}
use Rattle.synth_run.proofs.Leaving.{left, solved_on}
use Rattle.base.proofs.Results.{passed_on}
use Rattle.synth_run.proofs.commands.demo.demo.Goals as goal

is_to_reach : (n : ℕ) → Reach ≡ (demo_plant_of n).goal
unfolding demo_plant_of
is_to_reach n = refl

-- the game with its source lists is the demo plant's as well
pub demo_line-requires-clause-game : goal.demo_line-requires-clause-game
demo_line-requires-clause-game g c = subst (λ (h : Game). IsGameOf (demo_plant_of c.args.number) h) (sym c.in_ok-game.ensures.game) c.in_ok-forward.ensures.game

pub returns-clause-made : goal.returns-clause-made
returns-clause-made g c =
    let n = c.args.number in
    let solved = c.solve-solved.result in
    let abstraction = subst (λ (h : Game). IsGameOf (demo_plant_of n) h) (sym c.in_ok-game.ensures.game) c.in_ok-forward.ensures.game in
    let on = solved_on (demo_plant_of n) (game_of c.in_ok-game.game) (goal_of c.in_ok-scratch.scratch) solved (c.in_ok-scratch.ensures.goal ∙ is_to_reach n) abstraction c.solve-solved.ensures in
    let spells = (texts_spell n c.requires.number).spells in
    λ bytes. record { can_be_written = tt; answer = (demo_plant_of n, spells, c.in_ok-line.ensures); leaves = (demo_plant_of n, spells, left (demo_plant_of n) solved.board solved.root on) }

pub returns-in_err-forward-clause-memory : goal.returns-in_err-forward-clause-memory
returns-in_err-forward-clause-memory g c = passed_on c.from_residual.result c.in_err-forward.field-0.0 (λ (stop : Stop). stop ≡ without_memory) c.from_residual.ensures.1 c.in_err-forward.ensures.memory
