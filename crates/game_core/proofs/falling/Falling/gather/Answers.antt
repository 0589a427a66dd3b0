use Rattle.std.proofs.Common.{◌≡◌, ◌+◌, ◌<◌, arith, subst, sym, ◌∙◌}
use Rattle.game_core.proofs.Falls.{begun_falling, gather_fall, gather_stay, queue_below}
use Rattle.game_core.specs.inside.Falling.{IsFalling, with_fall}
use Rattle.game_core.proofs.falling.Falling.gather.Goals as goal
use Rattle.game_core.proofs.falling.Falling.gather.Goals.{then-left_of-eq0, else-left_of-eq0}

pub loop-c-init : goal.loop-c-init
loop-c-init g c = subst (IsFalling (g.G.Graph.game c.args.g.now) 0 0) (sym c.requires) (begun_falling (g.G.Graph.game c.args.g.now))

pub left_of-requires : goal.left_of-requires
left_of-requires g c = let n = c.loop-c.invariant.safe.one_number_each in let e = c.cells-c-end.ensures in let t = c.loop-c-test.true in omega arith

pub fall-requires : goal.fall-requires
fall-requires g c =
    let game = g.G.Graph.game c.args.g.now in
    omega (arith, queue_below game c.loop-c.c c.loop-c.self c.loop-c.invariant.fallen)

pub loop-c-preserved : goal.loop-c-preserved
loop-c-preserved g c =
    let game = g.G.Graph.game c.args.g.now in
    let lt : c.loop-c.c < game.cells = (let e = c.cells-c-end.ensures in let t = c.loop-c-test.true in omega arith) in
    elim c.if-left_of-eq0.branch [
      | then-left_of-eq0 w ↦
          subst (IsFalling game (c.loop-c.c + 1) 0) {x = with_fall c.loop-c.c c.loop-c.self} (sym (w.self-is ∙ w.fall.ensures))
          (gather_fall game c.loop-c.c lt c.loop-c.self c.loop-c.invariant (sym c.left_of.ensures ∙ w.if-left_of-eq0.true))
      | else-left_of-eq0 w ↦
          subst (IsFalling game (c.loop-c.c + 1) 0) {x = c.loop-c.self} (sym w.self-is)
          (gather_stay game c.loop-c.c lt c.loop-c.self c.loop-c.invariant (λ e. w.if-left_of-eq0.false (c.left_of.ensures ∙ e)))
    ]

pub returns : goal.returns
returns g c =
    let same : c.loop-c.c ≡ (g.G.Graph.game c.args.g.now).cells = omega arith in
    subst (λ n. IsFalling (g.G.Graph.game c.args.g.now) n 0 c.loop-c.self) same c.loop-c.invariant
