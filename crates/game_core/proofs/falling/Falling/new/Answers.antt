use Rattle.std.proofs.Common.{length, ap, ◌∙◌}
use Rattle.std.proofs.lemmas.List.FromFn.{length-map-range_with_len}
use Rattle.game_core.specs.Game.{pairs_of}
use Rattle.game_core.specs.inside.Falling.{is_live}
use Rattle.game_core.proofs.falling.Falling.new.Goals as goal

pub counts-requires : goal.counts-requires
counts-requires g c =
    let game = g.G.Graph.game c.args.g.now in
    ap length c.deref.ensures.value ∙ (ap length c.in_ok-safe.ensures ∙ length-map-range_with_len (is_live game) 0 (pairs_of game))
