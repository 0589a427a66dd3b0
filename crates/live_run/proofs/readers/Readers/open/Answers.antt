use Rattle.std.proofs.Common.{ap}
use Rattle.live_table.specs.Publishes.{Listener}
use Rattle.live_run.proofs.readers.Readers.open.Goals as goal

pub invariant_of-result : goal.invariant_of-result
invariant_of-result g c = λ k d lt.
    let new = c.in_ok-publisher.ensures.readers k d lt in
    (ap (λ (r : Listener). r.opening) new, ap (λ (r : Listener). r.told) new)
