use Rattle.std.proofs.Common.{◌≡◌, ℕ, ◌<◌, length, get_or}
use Rattle.game_core.specs.declared.game.Mark.TheVariants.{Plain}
use Rattle.game_core.specs.Game.{mark_of}
use Rattle.temporal_games.specs.inside.StayMarks.{hold_mark}
use Rattle.temporal_games.proofs.stay_marks.marks_to_hold.Given as goal

-- the marks so far
abbrev pub invariant-loop-c : goal.invariant-loop-c
invariant-loop-c g l =
    let game = g.G.Graph.game l.g in
    record {
      one_each : length l.marks.items ≡ game.cells;
      so_far : (k : ℕ) → k < l.c → get_or l.marks.items k Plain ≡ hold_mark (mark_of game k);
    }
