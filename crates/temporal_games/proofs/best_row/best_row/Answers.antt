use Rattle.std.proofs.Common.{◌≡◌, ◌+◌, ◌*◌, Some, None, arith, sym, ◌∙◌, subst}
use Rattle.game_core.specs.Game.{successors_at}
use Rattle.temporal_games.specs.inside.BestRows.{IsRankAfter, IsBestBelow}
use Rattle.temporal_games.proofs.BestRows.{none_more, one_more, best_is_right, greatest_bound}
use Rattle.temporal_games.proofs.best_row.best_row.Goals as goal
use Rattle.temporal_games.proofs.best_row.best_row.Goals.{in-Some, in_default}

pub overflow_add-rank : goal.overflow_add-rank
overflow_add-rank g c =
    let game = g.G.Graph.game c.args.g.now in
    let limits = g.met.G.Graph.lawful c.args.g.now in
    let most = limits.cells_bound in
    let cell = c.requires.cell in
    let after = c.in-Some.ensures in
    let low = greatest_bound c.args.answer.now game.cells (successors_at game (c.args.c * c.inputs-inputs.result + c.loop-input.input)) c.requires.ranks (omega arith) after.1 in
    let e = after.2 in
    omega arith

pub loop-input-preserved : goal.loop-input-preserved
loop-input-preserved g c =
    let game = g.G.Graph.game c.args.g.now in
    let rows = c.args.answer.now in
    let input = c.loop-input.input in
    elim c.match-rank_after.branch [
      | in-Some w ↦
          subst (IsBestBelow game rows c.args.c (input + 1)) (sym (w.best-is ∙ w.better-best.ensures))
          (one_more game rows c.args.c input w.in-Some.rank c.loop-input.best (let t = c.loop-input-test.true in let e = c.inputs-inputs.ensures in omega arith) c.loop-input.invariant
          (subst (λ n. IsRankAfter rows (successors_at game (c.args.c * n + input)) (Some w.in-Some.rank)) c.inputs-inputs.ensures w.in-Some.ensures))
      | in_default w ↦
          subst (IsBestBelow game rows c.args.c (input + 1)) (sym w.best-is)
          (none_more game rows c.args.c input c.loop-input.best c.loop-input.invariant
          (subst (λ n. IsRankAfter rows (successors_at game (c.args.c * n + input)) None) c.inputs-inputs.ensures (subst (IsRankAfter rows (successors_at game (c.args.c * c.inputs-inputs.result + input))) w.in_default.is c.rank_after.ensures)))
    ]

pub returns : goal.returns
returns g c =
    let game = g.G.Graph.game c.args.g.now in
    let past = c.loop-input-test.false in
    let end = c.loop-input.auto.input-end in
    let e = c.inputs-inputs.ensures in
    let same : c.loop-input.input ≡ game.inputs = omega arith in
    best_is_right game c.args.answer.now c.args.c c.loop-input.best (subst (λ n. IsBestBelow game c.args.answer.now c.args.c n c.loop-input.best) same c.loop-input.invariant)
