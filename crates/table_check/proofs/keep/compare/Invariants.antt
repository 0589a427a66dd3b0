use Rattle.std.proofs.Common.{ℕ, ◌≡◌, ◌<◌}
use Rattle.game_core.specs.Solution.{row_of}
use Rattle.table_check.proofs.keep.compare.Given as goal

abbrev pub invariant-loop-c : goal.invariant-loop-c
invariant-loop-c l = (b : ℕ) → b < l.c → row_of l.rows b ≡ row_of l.kept b
