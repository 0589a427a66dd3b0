use Rattle.std.proofs.Common.{◌≡◌, ◌*◌, false, arith, ap₂}
use Rattle.std.proofs.lemmas.List.FromFn.{fill_by_all}
use Rattle.game_core.specs.Game.{pairs_of}
use Rattle.game_core.specs.inside.Falling.{is_live}
use Rattle.game_core.proofs.falling.live_pairs.Goals as goal

pub returns : goal.returns
returns g c =
    let game = g.G.Graph.game c.args.g.now in
    let pairs : c.cells.result * c.inputs.result ≡ pairs_of game = ap₂ ◌*◌ c.cells.ensures c.inputs.ensures in
    fill_by_all (is_live game) c.loop-pair.safe.items (pairs_of game) false c.loop-pair.invariant.one_each (λ k lt. c.loop-pair.invariant.so_far k (omega arith))
