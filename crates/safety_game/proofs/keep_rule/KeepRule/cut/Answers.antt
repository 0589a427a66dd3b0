use Rattle.std.proofs.Common.{arith}
use Rattle.board_rounds.proofs.Graphs.{cell_below}
use Rattle.safety_game.proofs.Working.{cuts_once, still_kept}
use Rattle.safety_game.proofs.keep_rule.KeepRule.cut.Goals as goal

pub cut_pair_and_cell-requires-clause-board : goal.cut_pair_and_cell-requires-clause-board
cut_pair_and_cell-requires-clause-board g c = c.requires.board.of_game

pub returns-clause-once : goal.returns-clause-once
returns-clause-once g c =
    let rule = c.args.self.now in
    let game = g.G.Graph.game rule.graph.now in
    cuts_once game (omega arith) c.args.pair c.requires.pair (cell_below game rule.is_graph c.args.pair c.requires.pair) c.args.worker.now c.cut_pair_and_cell.new.worker c.cut_pair_and_cell.ensures

pub returns-clause-keeps : goal.returns-clause-keeps
returns-clause-keeps g c =
    let rule = c.args.self.now in
    let game = g.G.Graph.game rule.graph.now in
    still_kept game (omega arith) c.args.pair c.requires.pair (cell_below game rule.is_graph c.args.pair c.requires.pair) c.args.worker.now c.cut_pair_and_cell.new.worker c.cut_pair_and_cell.ensures
