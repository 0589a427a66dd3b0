use Rattle.std.proofs.Common.{arith}
use Rattle.std.proofs.lemmas.List.FromFn.{fill_by_all}
use Rattle.game_core.specs.declared.game.Mark.TheVariants.{Plain}
use Rattle.game_core.specs.Game.{mark_of}
use Rattle.game_core.specs.Solution.{row_of}
use Rattle.temporal_games.specs.inside.StayMarks.{end_mark}
use Rattle.temporal_games.proofs.stay_marks.marks_to_reach.Goals as goal

pub returns : goal.returns
returns g c =
    let game = g.G.Graph.game c.args.g.now in
    let held = c.args.held_answer.now in
    let cells = c.cells-cells.ensures in
    let past = c.loop-c-test.false in
    fill_by_all (λ c. end_mark (mark_of game c) (row_of held c)) c.loop-c.marks.items game.cells Plain c.loop-c.invariant.one_each (λ k lt. c.loop-c.invariant.so_far k (omega arith))
