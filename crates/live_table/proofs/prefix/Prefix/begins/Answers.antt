use Rattle.std.proofs.Common.{ap, subst, List}
use mathlib.Core.List.{IsPrefix}
use Rattle.controller_table.specs.Tables.{TableModel}
use Rattle.live_table.proofs.Prefixes.{shorter_begins}
use Rattle.live_table.proofs.prefix.Prefix.begins.Goals as goal

pub returns : goal.returns
returns c =
    let mine = c.self.inside.seen.log in let theirs = c.other.inside.seen.log in let both = c.learn.new.self.log in
    let this : IsPrefix mine both = subst (λ (l : List TableModel). IsPrefix l both) (ap (λ s. s.log) c.again-both.ensures) c.learn.ensures.2 in
    rw (← c.self.view_is, ← c.other.view_is) (shorter_begins c.self.inside.count c.other.inside.count mine theirs both c.self.invariant.0 c.other.invariant.0 this c.learn.ensures.3)
