use Rattle.std.proofs.Common.{None, length, arith}
use Rattle.std.proofs.lemmas.List.FromFn.{fill_by_all}
use Rattle.game_core.specs.Solution.{row_of}
use Rattle.temporal_games.specs.inside.StayMarks.{either_row}
use Rattle.temporal_games.proofs.reach_and_stay.overlay_rows.Goals as goal

pub returns : goal.returns
returns c =
    let cells = c.cells-c-end.ensures in
    let past = c.loop-c-test.false in
    fill_by_all (λ k. either_row (row_of c.args.held_answer.now k) (row_of c.args.answer.now k)) c.loop-c.answer (length c.args.held_answer.now) None c.loop-c.invariant.one_each (λ k lt. c.loop-c.invariant.so_far k (omega arith))
