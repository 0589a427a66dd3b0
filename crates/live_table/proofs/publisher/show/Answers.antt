use Rattle.std.proofs.Common.{Option, Some, ap, sym, subst}
use Rattle.live_table.specs.Publishes.{Published}
use Rattle.live_table.specs.inside.LiveProtocol.{Begins}
use Rattle.live_table.proofs.Steps.{turns}
use Rattle.live_table.proofs.publisher.show.Goals as goal

pub show_as-requires : goal.show_as-requires
show_as-requires g c =
    let now = c.open-open.result.0 in
    turns _ _ now.shown.value (record { current = Some c.args.current })
    (subst (λ (z : Option Published). Begins z (Some c.args.current)) (sym (ap (λ p. p.value.current) c.open-open.ensures.values.0)) c.requires)

pub returns : goal.returns
returns g c = record { shown = ap (λ s. s.current) c.show_as.ensures.values.0; is = c.show_as.ensures.rule.1.1 }
