use Rattle.std.proofs.Common.{◌≡◌, ℕ, ◌<◌, ◌≤◌, length}
use Rattle.game_core.specs.Solution.{row_of}
use Rattle.temporal_games.specs.inside.StayMarks.{either_row}
use Rattle.temporal_games.proofs.reach_and_stay.overlay_rows.Given as goal

-- the rows so far, and those that are still as they were
abbrev pub invariant-loop-c : goal.invariant-loop-c
invariant-loop-c l =
    record {
      one_each : length l.answer ≡ length l.held_answer;
      so_far : (k : ℕ) → k < l.c → row_of l.answer k ≡ either_row (row_of l.held_answer k) (row_of l.initial.answer k);
      rest : (k : ℕ) → l.c ≤ k → row_of l.answer k ≡ row_of l.initial.answer k;
    }
