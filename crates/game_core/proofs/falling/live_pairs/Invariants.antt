use Rattle.std.proofs.Common.{◌≡◌, ℕ, ◌<◌, length, get_or, false}
use Rattle.game_core.specs.Game.{pairs_of}
use Rattle.game_core.specs.inside.Falling.{is_live}
use Rattle.game_core.proofs.falling.live_pairs.Given as goal

-- the tests so far
abbrev pub invariant-loop-pair : goal.invariant-loop-pair
invariant-loop-pair g l =
    let game = g.G.Graph.game l.g in
    record {
      one_each : length l.safe.items ≡ pairs_of game;
      so_far : (k : ℕ) → k < l.pair → get_or l.safe.items k false ≡ is_live game k;
    }
