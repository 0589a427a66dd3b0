use Rattle.std.proofs.Common.{◌≡◌, List, All, sym, ◌∙◌, subst}
use Rattle.std.proofs.lemmas.List.Elements.{All-take}
use Rattle.live_table.specs.Publishes.{Listener}
use Rattle.run_tests.proofs.live.threads.pupils_of.Goals as goal

pub loop-reader-preserved : goal.loop-reader-preserved
loop-reader-preserved c = (
  c.in_ok-told.ensures.same ∙ c.loop-reader.invariant.0,
  subst (λ (items : List Listener). All (λ r. r.opening ≡ c.args.publisher.now.opening) items) (sym c.pop.ensures.rest)
      (All-take (λ (r : Listener). r.opening ≡ c.args.publisher.now.opening) _ c.loop-reader.readers.items c.loop-reader.invariant.1),
)
