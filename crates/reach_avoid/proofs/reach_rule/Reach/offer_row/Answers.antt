use Rattle.std.proofs.Common.{◌/◌, ◌<◌, length, sym, subst}
use Rattle.board_rounds.proofs.Graphs.{cell_below}
use Rattle.reach_avoid.proofs.OnBoards.{words_of_board}
use Rattle.reach_avoid.proofs.reach_rule.Reach.offer_row.Goals as goal

pub offer-requires-clause-word : goal.offer-requires-clause-word
offer-requires-clause-word g c =
    let rule = c.args.self.now in
    let game = g.G.Graph.game rule.graph.now in
    let words = words_of_board game rule.is_graph c.args.board.now c.requires.board in
    subst (λ n. c.args.pair / n < length c.args.board.now.least) (sym rule.inputs_are)
    (subst (λ n. c.args.pair / game.inputs < n) (sym words) (cell_below game rule.is_graph c.args.pair c.requires.pair))
