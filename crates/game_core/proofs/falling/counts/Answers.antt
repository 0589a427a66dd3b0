use Rattle.std.proofs.Common.{arith}
use Rattle.std.proofs.lemmas.List.FromFn.{fill_by_all}
use Rattle.game_core.specs.inside.Falling.{safe_pairs}
use Rattle.game_core.proofs.falling.counts.Goals as goal

pub returns : goal.returns
returns g c =
    let game = g.G.Graph.game c.args.g.now in
    fill_by_all (safe_pairs game c.args.safe.now) c.loop-c.counts.items game.cells 0 c.loop-c.invariant.one_each (λ k lt. c.loop-c.invariant.so_far k (omega arith))
