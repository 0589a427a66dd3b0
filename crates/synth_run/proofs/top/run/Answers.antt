use Rattle.synth_run.proofs.Completeness.{answer_is_complete, read_did_not_fail}
use Rattle.run_devices.proofs.Laws.{rose_by_one}
use Rattle.synth_run.proofs.top.run.Goals as goal

pub returns-clause-complete : goal.returns-clause-complete
returns-clause-complete g c =
    λ command of_command no_read_fault no_write_fault.
    let gives = c.outcome_of-outcome.ensures.of_command command of_command in
    rw c.status.ensures
    (answer_is_complete command c.outcome_of-outcome.result.0 _ gives.ends
    (read_did_not_fail command c.outcome_of-outcome.result.0 _ _ _ gives.ends gives.shown.read_fault no_read_fault)
    (λ e. no_write_fault (rose_by_one _ _ (gives.shown.write_fault e))))
