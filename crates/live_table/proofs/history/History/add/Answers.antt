use Rattle.std.proofs.Common.{◌≡◌, ◌+◌, ◌-◌, length, ap, sym, ◌∙◌, arith}
use Rattle.live_table.proofs.Adding.{adds_moves}
use Rattle.live_table.proofs.history.History.add.Goals as goal

pub compare_exchange-found-requires : goal.compare_exchange-found-requires
compare_exchange-found-requires c =
    let h = c.self.invariant in
    let same = c.again-seen.ensures in
    let pen = c.no_pen-pen.ensures in
    let offer = c.plain-offer.ensures in
    let v = c.again-seen.result.log in
    let long : length v ≡ c.prefix.inside.count = ap (λ s. length s.log) same ∙ sym c.prefix.invariant.0 in
    let len : length v ≡ c.from-old.result - 1 + 1 = omega (arith, c.from-old.ensures, c.prefix.invariant.1) in
    let book : c.again-seen.result.book ≡ c.self.inside.head.book =
    ap (λ s. s.book) same ∙ (ap (λ p. p.opening) c.prefix.view_is ∙ (c.requires.opening ∙ sym c.self.view_is)) in (
      ap (λ w. w.tracked) h,
      book,
      pen.0 ∙ book,
      offer.0,
      rw (ap (λ w. w.key) h, pen.1, offer.1, offer.3) (adds_moves v c.args.table.now (c.from-old.result - 1) len),
    )
