use Rattle.std.proofs.Common.{◌≡◌, ◌+◌, ◌-◌, ◌≤◌, length, drop}
use Rattle.row_runs.specs.declared.run.TableVersion.TheVariants.{Second}
use Rattle.row_runs.specs.Runs.{runs_from}
use Rattle.row_runs.proofs.runs.count_runs.Given as goal

abbrev pub invariant-loop-run : goal.invariant-loop-run
invariant-loop-run l = record {
  counted : l.count + length (runs_from Second l.cell (drop l.cell l.answer)) ≡ length (runs_from Second 0 l.answer);
  within : l.count ≤ l.cell;
  bound : l.cell ≤ length l.answer;
}

abbrev pub decreases-loop-run : goal.decreases-loop-run
decreases-loop-run l = length l.answer - l.cell
