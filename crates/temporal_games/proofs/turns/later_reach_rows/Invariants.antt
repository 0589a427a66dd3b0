use Rattle.std.proofs.Common.{◌≡◌, ℕ, ◌<◌, length}
use Rattle.game_core.specs.Solution.{row_of}
use Rattle.temporal_games.specs.Patrol.{IsLaterReachRow}
use Rattle.temporal_games.specs.inside.PatrolSearch.{mark_at}
use Rattle.game_core.specs.declared.game.Mark.TheVariants.{Goal}
use Rattle.temporal_games.proofs.turns.later_reach_rows.Given as goal

-- the rows so far
abbrev pub invariant-loop-c : goal.invariant-loop-c
invariant-loop-c g l =
    let game = g.G.Graph.game l.g in
    record {
      one_each : length l.rows ≡ game.cells;
      so_far : (k : ℕ) → k < l.c → IsLaterReachRow (λ s. mark_at l.arrivals s ≡ Goal) game k (row_of l.rows k);
    }
