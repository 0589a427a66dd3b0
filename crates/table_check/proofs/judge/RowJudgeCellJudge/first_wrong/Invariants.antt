use Rattle.std.proofs.Common.{ℕ, ◌<◌, ◌≤◌}
use Rattle.game_core.specs.Right.{IsRight}
use Rattle.table_check.proofs.judge.RowJudgeCellJudge.first_wrong.Given as goal

abbrev pub invariant-loop-c : goal.invariant-loop-c
invariant-loop-c g l = (b : ℕ) → l.from ≤ b → b < l.c → IsRight (g.G.Forward.game l.g) l.self.rows.now b
