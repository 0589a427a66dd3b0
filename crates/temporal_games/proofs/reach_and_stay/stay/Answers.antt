use Rattle.std.proofs.Common.{ℕ, List, length, Option, ap, sym, subst, ◌∙◌}
use Rattle.std.proofs.lemmas.List.FromFn.{length-map-range_with_len}
use Rattle.game_core.specs.declared.game.Mark.{Mark}
use Rattle.game_core.specs.declared.game.Row.{Row}
use Rattle.game_core.specs.Game.{Game, IsGraph, mark_of, with_marks}
use Rattle.game_core.specs.Keep.{IsKeepSolution}
use Rattle.game_core.specs.Solution.{IsReachSolution}
use Rattle.temporal_games.specs.Stay.{IsStaySolution}
use Rattle.temporal_games.specs.inside.StayMarks.{hold_mark, goals_alone, marks_to_reach, rows_over}
use Rattle.temporal_games.proofs.StayRows.{stays}
use Rattle.temporal_games.proofs.reach_and_stay.stay.Goals as goal

pub new-requires : goal.new-requires
new-requires g c =
    let game = g.G.Graph.game c.args.g.now in
    ap (λ (m : List Mark). length m) (c.deref.ensures.value ∙ c.in_ok-marks.ensures) ∙ length-map-range_with_len (λ c. hold_mark (mark_of game c)) 0 game.cells

pub returns : goal.returns
returns g c =
    let game = g.G.Graph.game c.args.g.now in
    let lawful : IsGraph game = (g.met.G.Graph g.world.𝓛 g.world.𝓜 g.world.𝓡 ((λ s x. x), (λ x. x), (λ x. x), λ x. x)).lawful c.args.g.now in
    let held : List (Option Row) = c.in_ok-held_answer.field-0.answer in
    let others : List (Option Row) = c.in_ok-answer.field-0.answer in
    let keeps : IsKeepSolution (goals_alone game) held =
    subst (λ (m : Game). IsKeepSolution m held) (c.new.ensures ∙ ap (with_marks game) (c.deref.ensures.value ∙ c.in_ok-marks.ensures)) c.in_ok-held_answer.ensures.solution
    in
    let reaches : IsReachSolution (with_marks game (marks_to_reach game held)) others =
    subst (λ (m : Game). IsReachSolution m others) (c.new-2.ensures ∙ ap (with_marks game) (c.deref-2.ensures.value ∙ c.in_ok-marks-2.ensures)) c.in_ok-answer.ensures.solution
    in
    subst (IsStaySolution game) (sym (c.overlay_rows.ensures ∙ ap (λ (n : ℕ). rows_over n held others) keeps.one_each))
    (stays game lawful.game held others keeps reaches)
