use Rattle.std.proofs.Common.{◌-◌}
use Rattle.game_core.specs.inside.Falling.{IsFalling}
use Rattle.game_core.proofs.plain.keep_plain.Given as goal

abbrev pub invariant-loop-head : goal.invariant-loop-head
invariant-loop-head g l = let game = g.G.Graph.game l.g in IsFalling game game.cells l.head l.falling

abbrev pub decreases-loop-head : goal.decreases-loop-head
decreases-loop-head g l = (g.G.Graph.game l.g).cells - l.head
