use Rattle.std.proofs.Common.{◌<◌, [], ◌∷◌, ap, sym, ◌∙◌, arith, rules}
use Rattle.cell_counters.specs.declared.rule.Setup.{Setup}
use Rattle.cell_counters.specs.BoardModels.{HandModel, with_log}
use Rattle.cell_counters.specs.inside.BoardProtocol.{Seated, account_of}
use Rattle.cell_counters.proofs.Logs.{awaited_is}
use Rattle.cell_counters.proofs.Roots.{tail_is, setup_is}
use Rattle.cell_counters.proofs.Steps.{draw_allowed, store_allowed}
use Rattle.cell_counters.proofs.board.Board.log_as.Goals as goal

pub fetch_add-number-requires : goal.fetch_add-number-requires
fetch_add-number-requires g c =
    (search rules, omega arith, draw_allowed _ _ _ _ _ _ c.hand.invariant.one c.hand.invariant.idle (sym (tail_is _ _ _ _ _ c.self.invariant)))

pub store-requires : goal.store-requires
store-requires g c =
    let own = c.hand.inside.seat.me.0 in
    let number = c.fetch_add-number.result in
    let began = setup_is _ _ _ _ (ap (λ (h : HandModel). h.board) c.hand.view_is ∙ c.requires.hand ∙ sym c.self.view_is) in
    let drew = c.fetch_add-number.ensures.2 in
    let below : number < own.began.slots = omega (arith, ap (λ (n : Setup). n.slots) began, c.self.invariant.log, c.from.ensures) in
    let tail = tail_is _ _ _ _ _ c.self.invariant in (
      search rules,
      omega arith,
      store_allowed _ _ _ _ number _ _ (account_of own)
          (ap (λ (me : Seated). me.0.accounts) drew ∙ ap (λ cell. with_log (account_of own) cell number ∷ []) (sym c.requires.item ∙ sym c.from-2.ensures))
          (ap (λ (me : Seated). me.0.awaits) drew ∙ awaited_is own.began.slots number below)
          (omega (arith, c.self.invariant.log, c.from.ensures))
          (omega (arith, c.from-2.ensures))
          (omega (arith, tail)),
    )
