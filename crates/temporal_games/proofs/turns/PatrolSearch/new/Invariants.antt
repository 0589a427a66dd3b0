use Rattle.std.proofs.Common.{◌≡◌, ℕ, ◌<◌, length}
use Rattle.temporal_games.specs.inside.PatrolSearch.{marks_for, AreFirstMarks}
use Rattle.temporal_games.proofs.turns.PatrolSearch.new.Given as goal

-- the turns so far have their first marks
abbrev pub invariant-loop-turn : goal.invariant-loop-turn
invariant-loop-turn g l =
    let game = g.G.Graph.game l.g in
    record {
      mark_lists : length l.arrivals.items ≡ l.turn;
      row_lists : length l.rows.items ≡ l.turn;
      marked : (j : ℕ) → j < l.turn → AreFirstMarks l.p game l.kept_answer j (marks_for l.arrivals.items j);
    }
