use Rattle.std.proofs.Common.{sym, subst, Option}
use Rattle.controller_table.specs.Tables.{TableModel}
use Rattle.live_table.specs.Publishes.{Published}
use Rattle.live_run.specs.inside.Sessions.{Fits, GoOnWith}
use Rattle.live_run.proofs.TablesMore.{fits_more}
use Rattle.live_run.proofs.session.Session.publish.Goals as goal

pub invariant_of-self : goal.invariant_of-self
invariant_of-self g c =
    let s = c.self.inside in
    (c.self.invariant.0, subst (λ (o : Option Published). Fits o s.count s.table) (sym c.in_err-replace_with.ensures.1) tt)

pub invariant_of-self-2 : goal.invariant_of-self-2
invariant_of-self-2 g c =
    let s = c.self.inside in
    let opened = c.opened_with.result in
    let on : GoOnWith s.readers opened c.args.table c.replace_with.new.dest = subst (λ (t : TableModel). GoOnWith s.readers opened t c.replace_with.new.dest) c.in_ok-copy.ensures c.in_ok-replace_with.ensures.0 in
    (c.self.invariant.0, fits_more s.readers c.replace_with.new.dest opened s.count s.table c.args.table c.self.invariant.1 c.opened_with.ensures.first on)
