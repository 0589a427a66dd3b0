use Rattle.row_runs.specs.declared.run.TableVersion.TheVariants.{Second}
use Rattle.row_runs.proofs.NextRows.{no_runs_left, run_is_next}
use Rattle.row_runs.proofs.runs.next_run.Goals as goal

pub returns-in_err-first-clause-none : goal.returns-in_err-first-clause-none
returns-in_err-first-clause-none c = rw c.from_residual.ensures (no_runs_left Second c.args.from c.args.answer.now c.requires c.in_err-first.ensures.none)

pub returns-clause-run : goal.returns-clause-run
returns-clause-run c =
    run_is_next c.args.from c.in_ok-first.first c.last_of-last.result c.in_ok-first.row c.args.answer.now c.in_ok-first.ensures.ahead c.last_of-last.ensures.ahead c.in_ok-first.ensures.before c.last_of-last.ensures.within c.last_of-last.ensures.ends
