use Rattle.std.proofs.Common.{inl, inr, arith}
use Rattle.row_runs.proofs.filling.fill_run.Goals as goal

pub returns-clause-rows : goal.returns-clause-rows
returns-clause-rows c = record {
  within = λ d low high. c.loop-cell.invariant.within d low (omega (arith, high, c.loop-cell.auto.cell, c.loop-cell.auto.cell-end, c.loop-cell-test.false));
  elsewhere = λ d out. c.loop-cell.invariant.elsewhere d (elim out [
    | inl below ↦ inl below
    | inr above ↦ inr (omega (arith, above, c.requires.some, c.loop-cell.auto.cell-end, c.loop-cell-test.false))
  ]);
}
