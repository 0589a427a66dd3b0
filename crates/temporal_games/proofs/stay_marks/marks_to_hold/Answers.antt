use Rattle.std.proofs.Common.{arith}
use Rattle.std.proofs.lemmas.List.FromFn.{fill_by_all}
use Rattle.game_core.specs.declared.game.Mark.TheVariants.{Plain}
use Rattle.game_core.specs.Game.{mark_of}
use Rattle.temporal_games.specs.inside.StayMarks.{hold_mark}
use Rattle.temporal_games.proofs.stay_marks.marks_to_hold.Goals as goal

pub returns : goal.returns
returns g c =
    let game = g.G.Graph.game c.args.g.now in
    let cells = c.cells-cells.ensures in
    let past = c.loop-c-test.false in
    fill_by_all (λ c. hold_mark (mark_of game c)) c.loop-c.marks.items game.cells Plain c.loop-c.invariant.one_each (λ k lt. c.loop-c.invariant.so_far k (omega arith))
