use Rattle.std.proofs.Common.{◌≡◌, length, ◌<◌, ◌+◌, ◌-◌, [], Any, ne_eqb, ap, sym, ◌∙◌, subst, arith, rules}
use Rattle.cell_counters.specs.declared.account.TheConstants.{NONE}
use Rattle.cell_counters.specs.declared.account.Offer.{Offer}
use Rattle.cell_counters.specs.declared.rule.Setup.{Setup}
use Rattle.cell_counters.specs.Accounts.{offers_on}
use Rattle.cell_counters.specs.BoardModels.{BoardModel, HandModel}
use Rattle.cell_counters.specs.inside.BoardProtocol.{setup_of, account_of}
use Rattle.cell_counters.proofs.Entries.{has_offer}
use Rattle.cell_counters.proofs.Steps.{offer_allowed}
use Rattle.cell_counters.proofs.Roots.{starts_len, tail_is, setup_is}
use Rattle.cell_counters.proofs.board.Board.offer.Goals as goal

pub fetch_min-found-requires : goal.fetch_min-found-requires
fetch_min-found-requires c =
    let there : c.args.word < length (setup_of c.self.inside.table.shared.key).least = subst (λ (b : BoardModel). c.args.word < length b.least) (sym c.self.view_is) c.requires.word in
    let front = starts_len _ _ _ _ _ c.self.invariant in
    let tail = tail_is _ _ _ _ _ c.self.invariant in
    (search rules, omega (arith, front, tail), offer_allowed _ _ _ _ _ _ c.hand.invariant.one (omega (arith, front)) (omega (arith, front)) c.requires.value)

pub returns-clause-earlier : goal.returns-clause-earlier
returns-clause-earlier c = λ any.
    let own = c.hand.inside.seat.me.0 in
    let began = setup_is _ _ _ _ (ap (λ (h : HandModel). h.board) c.hand.view_is ∙ c.requires.hand ∙ sym c.self.view_is) in
    let at : c.self.inside.counters + c.args.word - length own.began.starts ≡ c.args.word = omega (arith, ap (λ (n : Setup). length n.starts) began, starts_len _ _ _ _ _ c.self.invariant) in
    let mine : Any (λ (o : Offer). o.word ≡ c.args.word) (account_of own).offers = subst (λ (h : HandModel). Any (λ (o : Offer). o.word ≡ c.args.word) h.account.offers) (sym c.hand.view_is) any in
    ne_eqb c.fetch_min-found.result NONE
    (λ e. has_offer (account_of own).offers c.args.word mine (subst (λ w. offers_on w (account_of own) ≡ []) at (c.fetch_min-found.ensures.2.1 e).1))
