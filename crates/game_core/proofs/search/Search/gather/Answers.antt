use Rattle.std.proofs.Common.{◌≡◌, ◌+◌, ◌<◌, arith, subst, sym, ◌∙◌}
use Rattle.game_core.proofs.Gathering.{gathered_none, gathered_goal, gathered_other, not_yet, goal_row}
use denote.Enum.Bare.{same_true, same_false}
use Rattle.game_core.specs.contracts.game.Mark.{the_type}
use Rattle.game_core.specs.declared.game.Mark.TheVariants.{Goal}
use Rattle.game_core.specs.inside.Search.{with_row, IsGathered}
use Rattle.game_core.proofs.search.Search.gather.Goals as goal
use Rattle.game_core.proofs.search.Search.gather.Goals.{then-eq, else-eq}

pub loop-c-init : goal.loop-c-init
loop-c-init g c = subst (IsGathered (g.G.Graph.game c.args.g.now) 0) (sym c.requires) (gathered_none (g.G.Graph.game c.args.g.now))

pub settle-requires-clause-within : goal.settle-requires-clause-within
settle-requires-clause-within g c = let n = c.loop-c.invariant.one_each in let e = c.cells-c-end.ensures in let t = c.loop-c-test.true in omega arith

pub settle-requires-clause-first : goal.settle-requires-clause-first
settle-requires-clause-first g c = not_yet (g.G.Graph.game c.args.g.now) c.loop-c.c (let e = c.cells-c-end.ensures in let t = c.loop-c-test.true in omega arith) c.loop-c.self c.loop-c.invariant

pub loop-c-preserved : goal.loop-c-preserved
loop-c-preserved g c =
    let game = g.G.Graph.game c.args.g.now in
    let lt : c.loop-c.c < game.cells = (let e = c.cells-c-end.ensures in let t = c.loop-c-test.true in omega arith) in
    elim c.if-eq.branch [
      | then-eq w ↦
          subst (IsGathered game (c.loop-c.c + 1)) {x = with_row c.loop-c.c goal_row c.loop-c.self} (sym (w.self-is ∙ w.settle.ensures))
          (gathered_goal game c.loop-c.c lt c.loop-c.self c.loop-c.invariant (sym c.mark.ensures ∙ same_true the_type tt c.mark.result Goal (sym c.eq.ensures ∙ w.if-eq.true)))
      | else-eq w ↦
          subst (IsGathered game (c.loop-c.c + 1)) {x = c.loop-c.self} (sym w.self-is)
          (gathered_other game c.loop-c.c lt c.loop-c.self c.loop-c.invariant (λ e. same_false the_type c.mark.result Goal (sym c.eq.ensures ∙ w.if-eq.false) (c.mark.ensures ∙ e)))
    ]

pub returns : goal.returns
returns g c =
    let same : c.loop-c.c ≡ (g.G.Graph.game c.args.g.now).cells = omega arith in
    subst (λ n. IsGathered (g.G.Graph.game c.args.g.now) n c.loop-c.self) same c.loop-c.invariant
