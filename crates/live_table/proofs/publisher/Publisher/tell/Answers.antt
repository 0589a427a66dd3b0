use Rattle.std.proofs.Common.{Some, ap, sym, ◌∙◌}
use Rattle.live_table.proofs.Covering.{covers_same}
use Rattle.live_table.proofs.publisher.Publisher.tell.Goals as goal

pub invariant_of-result : goal.invariant_of-result
invariant_of-result c = covers_same _ _ (c.in_ok-copies.ensures.knows ∙ (c.self.invariant.0.is ∙ ap Some (sym c.again-prefix.ensures)))
