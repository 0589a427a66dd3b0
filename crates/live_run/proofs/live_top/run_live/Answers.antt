use Rattle.run_devices.proofs.Laws.{rose_by_one}
use Rattle.live_run.proofs.Ending.{complete}
use Rattle.live_run.proofs.live_top.run_live.Goals as goal

pub returns-clause-complete : goal.returns-clause-complete
returns-clause-complete g c =
    λ readers of_command no_read_fault no_write_fault.
    let gives = c.outcome_of-outcome.ensures.of_command readers of_command in
    rw c.status.ensures
    (complete c.outcome_of-outcome.result _ gives.ends
    (λ e. no_read_fault (rose_by_one _ _ (gives.shown.read_fault e)))
    (λ e. no_write_fault (rose_by_one _ _ (gives.shown.write_fault e))))
