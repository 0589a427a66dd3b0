use Rattle.std.proofs.Common.{◌≡◌, length, map, take}
use Rattle.game_core.specs.Game.{pairs_of}
use Rattle.game_core.proofs.search.fans.Given as goal

-- the fans so far
abbrev pub invariant-loop-pair : goal.invariant-loop-pair
invariant-loop-pair g l =
    let game = g.G.Graph.game l.g in
    (length l.fans.items ≡ pairs_of game) × (take l.pair l.fans.items ≡ take l.pair (map length game.successors))
