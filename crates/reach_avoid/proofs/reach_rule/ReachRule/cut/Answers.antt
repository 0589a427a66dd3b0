use Rattle.reach_avoid.proofs.Working.{cuts_once, still_kept}
use Rattle.reach_avoid.proofs.reach_rule.ReachRule.cut.Goals as goal

pub cut_and_offer-requires-clause-board : goal.cut_and_offer-requires-clause-board
cut_and_offer-requires-clause-board g c = c.requires.board.of_game

pub returns-clause-once : goal.returns-clause-once
returns-clause-once g c =
    let rule = c.args.self.now in
    cuts_once (g.G.Graph.game rule.graph.now) c.args.round c.args.pair c.args.worker.now c.cut_and_offer.new.worker c.cut_and_offer.ensures

pub returns-clause-keeps : goal.returns-clause-keeps
returns-clause-keeps g c =
    let rule = c.args.self.now in
    still_kept (g.G.Graph.game rule.graph.now) c.args.round c.args.pair c.args.worker.now c.cut_and_offer.new.worker c.cut_and_offer.ensures c.requires.pair
