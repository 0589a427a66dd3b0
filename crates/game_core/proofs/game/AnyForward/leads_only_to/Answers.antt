use Rattle.std.proofs.Common.{get_or, refl, subst, arith, below_more}
use Rattle.game_core.specs.Game.{successors_at}
use Rattle.game_core.proofs.game.AnyForward.leads_only_to.Goals as goal

pub loop-at-init : goal.loop-at-init
loop-at-init g c = λ i below. absurd (omega arith)

pub loop-at-preserved : goal.loop-at-preserved
loop-at-preserved g c =
    below_more (λ i. g.T.CellTest.passes c.args.test.now (get_or (successors_at (g.G.Graph.game c.args.self.now) c.args.pair) i 0)) c.loop-at.at c.loop-at.invariant
    (subst (g.T.CellTest.passes c.args.test.now) c.successor.ensures (c.if-not-passes.ensures.0 refl))
