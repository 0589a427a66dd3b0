use Rattle.std.proofs.Common.{◌≡◌, ◌-◌, ◌/◌, true, length, get_or, length-set, arith, ap, sym, ◌∙◌}
use Rattle.game_core.proofs.Losses.{some_left, capacity}
use Rattle.game_core.specs.inside.Falling.{FallingProgress, is_safe}
use Rattle.game_core.proofs.falling.Falling.lose.Goals as goal

pub close-requires-clause-left : goal.close-requires-clause-left
close-requires-clause-left g c =
    let falling = c.requires.falling in
    let safe : is_safe c.args.self.now.safe c.args.pair ≡ true = sym c.is_safe.ensures ∙ c.if-is_safe.true in
    let some' = some_left (g.G.Graph.game c.args.g.now) falling.0 c.args.self.now falling.1 c.args.pair c.requires.pair safe in
    let same = ap (λ n. get_or c.args.self.now.left (c.args.pair / n) 0) c.inputs.ensures in
    omega arith

pub fall-requires : goal.fall-requires
fall-requires g c =
    let falling = c.requires.falling in
    let safe : is_safe c.args.self.now.safe c.args.pair ≡ true = sym c.is_safe.ensures ∙ c.if-is_safe.true in
    let capacity' = capacity (g.G.Graph.game c.args.g.now) falling.0 c.args.self.now falling.1 c.args.pair c.requires.pair safe in
    let queue : length c.close.new.self.queue ≡ length c.args.self.now.queue = ap (λ (p : FallingProgress). length p.queue) c.close.ensures in
    let cell = c.args.pair / c.inputs.result in
    let left : length c.close.new.self.left ≡ length c.args.self.now.left =
    ap (λ (p : FallingProgress). length p.left) c.close.ensures ∙ length-set c.args.self.now.left cell (get_or c.args.self.now.left cell 0 - 1) in
    omega arith
