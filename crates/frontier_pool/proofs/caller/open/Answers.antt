use Rattle.std.proofs.Common.{[], sym, subst, ◌∙◌}
use Rattle.atomic_table.specs.Table.{opening}
use Rattle.frontier_pool.specs.inside.ClaimProtocol.{Keeps, first_view}
use Rattle.frontier_pool.proofs.Steps.{begins}
use Rattle.frontier_pool.proofs.caller.open.Goals as goal

pub of_words-requires : goal.of_words-requires
of_words-requires c = subst (λ words. Keeps c.args.items (opening {S = Unit {0}} words [] first_view)) (sym (c.as_slice.ensures.value ∙ c.in_ok-zeros.ensures.items_if_clones_equal (λ y h. h))) (begins c.args.items)
