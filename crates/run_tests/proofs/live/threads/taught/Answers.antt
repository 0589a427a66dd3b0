use Rattle.std.proofs.Common.{ap, sym, ◌∙◌}
use Rattle.live_table.specs.Publishes.{Listener}
use Rattle.run_tests.proofs.live.threads.taught.Goals as goal

pub teach-well-requires-clause-readers : goal.teach-well-requires-clause-readers
teach-well-requires-clause-readers g c κs within = λ k d lt. ap (λ (r : Listener). r.opening) (c.in_ok-publisher.ensures.readers k d lt) ∙ sym c.publish.ensures.opening
