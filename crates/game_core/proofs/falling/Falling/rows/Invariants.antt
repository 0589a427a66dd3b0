use Rattle.std.proofs.Common.{◌≡◌, ℕ, ◌<◌, length}
use Rattle.game_core.specs.Solution.{row_of}
use Rattle.game_core.specs.inside.Falling.{IsFirstSafe}
use Rattle.game_core.proofs.falling.Falling.rows.Given as goal

-- the rows so far
abbrev pub invariant-loop-c : goal.invariant-loop-c
invariant-loop-c g l =
    let game = g.G.Graph.game l.g in
    record {
      one_each : length l.answer ≡ game.cells;
      so_far : (k : ℕ) → k < l.c → IsFirstSafe game l.self.safe k (row_of l.answer k);
    }
