use Rattle.std.proofs.Common.{arith}
use Rattle.safety_game.proofs.OnBoards.{counters_of_board}
use Rattle.safety_game.proofs.keep_rule.Keep.cut_cell.Goals as goal

pub cut-requires-clause-counter : goal.cut-requires-clause-counter
cut-requires-clause-counter g c =
    let rule = c.args.self.now in
    omega (arith, counters_of_board (g.G.Graph.game rule.graph.now) rule.is_graph c.args.board.now c.requires.board)
