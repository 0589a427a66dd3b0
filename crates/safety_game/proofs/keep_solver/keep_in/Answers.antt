use Rattle.game_core.specs.Game.{IsGraph}
use Rattle.board_rounds.proofs.Here.{here}
use Rattle.safety_game.proofs.Plays.{runnable}
use Rattle.safety_game.proofs.Ends.{solved}
use Rattle.safety_game.proofs.keep_solver.keep_in.Goals as goal

pub solve_by_rule-requires-clause-board : goal.solve_by_rule-requires-clause-board
solve_by_rule-requires-clause-board g c κs within =
    let game = g.G.Graph.game c.args.g.now in
    let a : IsGraph game = (g.met.G.Graph g.world.𝓛 g.world.𝓜 g.world.𝓡 (here g.world)).lawful c.args.g.now in
    runnable game a c.args.scratch c.requires

pub solve_by_rule-requires-clause-slots : goal.solve_by_rule-requires-clause-slots
solve_by_rule-requires-clause-slots g c κs within = c.requires.log

pub returns : goal.returns
returns g c =
    let game = g.G.Graph.game c.args.g.now in
    let a : IsGraph game = (g.met.G.Graph g.world.𝓛 g.world.𝓜 g.world.𝓡 (here g.world)).lawful c.args.g.now in
    solved game a c.args.scratch c.requires _ c.solve_by_rule.ensures
