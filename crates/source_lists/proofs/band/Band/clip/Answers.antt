use Rattle.std.proofs.Common.{arith}
use Rattle.source_lists.proofs.BandSlots.{segment_outside, segment_clipped}
use Rattle.source_lists.proofs.band.Band.clip.Goals as goal

pub returns-then-high-low-clause-slots : goal.returns-then-high-low-clause-slots
returns-then-high-low-clause-slots c =
    let band = c.args.self.now in
    segment_outside band.from band.len c.args.first c.args.len (λ x from_first to_last low high. omega (arith, from_first, to_last, low, high, c.max-low.ensures, c.min-high.ensures, c.if-high-low.true))

pub returns-clause-slots : goal.returns-clause-slots
returns-clause-slots c =
    let band = c.args.self.now in
    let low = c.max-low.ensures in
    let high = c.min-high.ensures in
    segment_clipped band.from band.len c.args.first c.args.len c.max-low.result c.min-high.result
    (omega (arith, low)) (omega (arith, c.if-high-low.false)) (omega (arith, high)) (omega (arith, low)) (omega (arith, high))
    (λ x from_first to_low. omega (arith, from_first, to_low, low))
    (λ x from_high to_last. omega (arith, from_high, to_last, high))
