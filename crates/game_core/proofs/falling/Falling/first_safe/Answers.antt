use Rattle.std.proofs.Common.{◌≡◌, ◌+◌, ◌*◌, false, arith, ap, sym, ◌∙◌, below_more}
use Rattle.game_core.specs.Game.{pair_of}
use Rattle.game_core.specs.inside.Falling.{is_safe}
use Rattle.game_core.proofs.falling.Falling.first_safe.Goals as goal

pub loop-input-init : goal.loop-input-init
loop-input-init g c = λ u below. absurd (omega arith)

pub loop-input-preserved : goal.loop-input-preserved
loop-input-preserved g c =
    let safe = c.args.self.now.safe in
    let u = c.loop-input.input in
    below_more (λ u. is_safe safe (pair_of (g.G.Graph.game c.args.g.now) c.args.c u) ≡ false) u c.loop-input.invariant
    (ap (λ n. is_safe safe (c.args.c * n + u)) (sym c.inputs-inputs.ensures) ∙ sym c.is_safe.ensures ∙ c.if-is_safe.false)
