use Rattle.std.proofs.Common.{ℕ, ◌<◌, get_or}
use Rattle.game_core.specs.Game.{successors_at}
use Rattle.game_core.proofs.game.AnyForward.leads_only_to.Given as goal

-- the successors so far pass
abbrev pub invariant-loop-at : goal.invariant-loop-at
invariant-loop-at g l = (i : ℕ) → i < l.at → g.T.CellTest.passes l.test (get_or (successors_at (g.G.Graph.game l.self) l.pair) i 0)
