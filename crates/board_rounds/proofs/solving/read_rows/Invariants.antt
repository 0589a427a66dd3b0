use Rattle.std.proofs.Common.{◌≡◌, ℕ, ◌<◌, length}
use Rattle.game_core.specs.Solution.{row_of}
use Rattle.board_rounds.proofs.solving.read_rows.Given as goal

-- the rows so far
abbrev pub invariant-loop-c : goal.invariant-loop-c
invariant-loop-c g l =
    record {
      same : l.root ≡ l.initial.root;
      one_each : length l.answer ≡ (g.L.Rule.game l.rule).cells;
      so_far : (k : ℕ) → k < l.c → g.L.Rule.tells l.rule l.initial.root.accounts k (row_of l.answer k);
    }
