use Rattle.std.proofs.Common.{inl, inr, ◌≡◌, ◌⊎◌, ◌<◌, List, Option, arith, sym, ap, ◌∙◌, subst}
use Rattle.game_core.specs.declared.game.Mark.{Mark}
use Rattle.game_core.specs.declared.game.Mark.TheVariants.{Goal, Obstacle, Plain}
use Rattle.game_core.specs.declared.game.Row.{Row}
use Rattle.game_core.specs.Game.{Game, IsGame, IsGraph, mark_of, with_marks}
use Rattle.game_core.specs.Solution.{IsReachSolution}
use Rattle.game_core.specs.Right.{IsRightPlain}
use Rattle.game_core.proofs.RankBound.{rank_below}
use Rattle.game_core.proofs.Right.{solutions_are_right}
use Rattle.temporal_games.specs.Patrol.{IsLaterReachRow}
use Rattle.temporal_games.specs.inside.PatrolSearch.{mark_at}
use Rattle.game_core.proofs.Carried.{remarked_game}
use Rattle.temporal_games.proofs.TurnRows.{at_arrival, elsewhere, one_row_more}
use Rattle.temporal_games.proofs.turns.later_reach_rows.Goals as goal
use Rattle.temporal_games.proofs.turns.later_reach_rows.Goals.{in-Goal, in-Obstacle}

pub best_row-row-requires-clause-ranks : goal.best_row-row-requires-clause-ranks
best_row-row-requires-clause-ranks g c =
    let graph = g.G.Graph.game c.new-game.result.graph.now in
    let marks = c.new-game.result.marks.now in
    let lawful : IsGraph graph = (g.met.G.Graph g.world.𝓛 g.world.𝓜 g.world.𝓡 ((λ s x. x), (λ x. x), (λ x. x), λ x. x)).lawful c.new-game.result.graph.now in
    rank_below (with_marks graph marks) c.in_ok-solved.field-0.answer (remarked_game graph marks c.new-game.result.one_mark_each lawful.game) c.in_ok-solved.ensures.solution

pub loop-c-preserved : goal.loop-c-preserved
loop-c-preserved g c =
    let game : Game = g.G.Graph.game c.args.g.now in
    let lawful : IsGraph game = (g.met.G.Graph g.world.𝓛 g.world.𝓜 g.world.𝓡 ((λ s x. x), (λ x. x), (λ x. x), λ x. x)).lawful c.args.g.now in
    let a : IsGame game = lawful.game in
    let marks : List Mark = c.args.arrivals.now in
    let turn = c.requires.marks in
    let seen : Game = with_marks (g.G.Graph.game c.new-game.result.graph.now) c.new-game.result.marks.now in
    let same : seen ≡ with_marks game marks = c.new-game.ensures ∙ ap (with_marks game) c.marks.ensures in
    let solved : List (Option Row) = c.in_ok-solved.field-0.answer in
    let solution : IsReachSolution (with_marks game marks) solved = subst (λ (h : Game). IsReachSolution h solved) same c.in_ok-solved.ensures.solution in
    let right = solutions_are_right (with_marks game marks) solved (remarked_game game marks turn.one_each a) solution in
    let lt : c.loop-c.c < game.cells = (let e = c.cells-c-end.ensures in let t = c.loop-c-test.true in omega arith) in
    let mark : c.mark.result ≡ mark_at marks c.loop-c.c = c.mark.ensures ∙ ap (λ (h : Game). mark_of h c.loop-c.c) same in
    let here : IsLaterReachRow (λ s. mark_at marks s ≡ Goal) game c.loop-c.c c.match-mark.row =
    elim c.match-mark.branch [
      | in-Goal w ↦
          subst (IsLaterReachRow (λ s. mark_at marks s ≡ Goal) game c.loop-c.c) (sym w.row-is)
          (at_arrival game a marks turn solved solution c.loop-c.c lt (sym mark ∙ w.in-Goal.is) w.best_row-row.result (subst (λ (h : Game). IsRightPlain h solved c.loop-c.c w.best_row-row.result) same w.best_row-row.ensures))
      | in-Obstacle w ↦
          subst (IsLaterReachRow (λ s. mark_at marks s ≡ Goal) game c.loop-c.c) (sym (w.row-is ∙ w.row-row.ensures))
          (elsewhere game a marks turn solved solution right c.loop-c.c lt (λ e. other c.mark.result w.in-Obstacle.is (mark ∙ e)))
    ] in
    let more = one_row_more (λ k o. IsLaterReachRow (λ s. mark_at marks s ≡ Goal) game k o) c.loop-c.rows c.loop-c.c c.match-mark.row game.cells lt c.loop-c.invariant.one_each c.loop-c.invariant.so_far here c.set.new.self c.set.ensures in
    record { one_each = more.0; so_far = more.1 }
  where
    other : (m : Mark) → (m ≡ Obstacle) ⊎ (m ≡ Plain) → m ≡ Goal → ⊥
    other m (inl o) e = cc
    other m (inr o) e = cc
