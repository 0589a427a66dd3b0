use Rattle.std.proofs.Common.{◌<◌, arith, ap, refl, length}
use Rattle.mixed_radix.proofs.Numbers.{the_digits}
use Rattle.grid_quantiser.specs.Axes.{counts_of}
use Rattle.grid_quantiser.proofs.Counts.{length-counts_of}
use Rattle.grid_quantiser.proofs.BetweenCells.{between_from_contains, contains_from_between, between_each, between_from_each}
use Rattle.grid_quantiser.proofs.BoxNth.{corners}
use Rattle.grid_quantiser.proofs.grid.Grid.box_has.Goals as goal
use Rattle.grid_quantiser.proofs.grid.Grid.box_has.Goals.{then-indices-i-via-then-indices-i, then-indices-i-via-else-indices-i+then-last-i}

pub returns-then-indices-i : goal.returns-then-indices-i
returns-then-indices-i c = (
  λ h. cc,
  λ has.
      let axes = c.args.self.now in
      let k = c.loop-i.i in
      let same = c.counts-counts.ensures.same in
      let corner = corners axes c.args.b.first c.args.b.last c.counts-counts.ensures.axes c.counts-counts.ensures.cells c.requires.ordered in
      let within : k < length axes = omega (arith, c.loop-i-test.true, ap length same, length-counts_of axes) in
      let between = between_each axes c.args.b.first c.args.b.last c.args.c k (between_from_contains axes c.args.b.first c.args.b.last c.args.c c.counts-counts.ensures.axes.each c.requires.ordered has) within in
      let first = the_digits (counts_of axes) c.decode-first.result c.args.b.first k ((rw same at c.decode-first.ensures.digits) corner.low) (omega (arith, within, length-counts_of axes)) in
      let last = the_digits (counts_of axes) c.decode-last.result c.args.b.last k ((rw same at c.decode-last.ensures.digits) corner.high) (omega (arith, within, length-counts_of axes)) in
      let here = the_digits (counts_of axes) c.decode-indices.result c.args.c k ((rw same at c.decode-indices.ensures.digits) c.requires.cell) (omega (arith, within, length-counts_of axes)) in
      elim c.then-indices-i.branch [
        | then-indices-i-via-then-indices-i w ↦ absurd (omega (arith, w.if-indices-i.true, between.0, first, here))
        | then-indices-i-via-else-indices-i+then-last-i w ↦ absurd (omega (arith, w.if-last-i.true, between.1, last, here))
      ],
)

pub returns : goal.returns
returns c =
    let axes = c.args.self.now in
    let same = c.counts-counts.ensures.same in
    let corner = corners axes c.args.b.first c.args.b.last c.counts-counts.ensures.axes c.counts-counts.ensures.cells c.requires.ordered in (
      λ h. contains_from_between axes c.args.b.first c.args.b.last c.args.c c.counts-counts.ensures.axes.each c.requires.cell
          (between_from_each axes c.args.b.first c.args.b.last c.args.c (λ k within.
          let lt : k < length (counts_of axes) = omega (arith, within, length-counts_of axes) in
          let both = c.loop-i.invariant k (omega (arith, lt, ap length same, c.loop-i-test.false)) in
          let first = the_digits (counts_of axes) c.decode-first.result c.args.b.first k ((rw same at c.decode-first.ensures.digits) corner.low) lt in
          let last = the_digits (counts_of axes) c.decode-last.result c.args.b.last k ((rw same at c.decode-last.ensures.digits) corner.high) lt in
          let here = the_digits (counts_of axes) c.decode-indices.result c.args.c k ((rw same at c.decode-indices.ensures.digits) c.requires.cell) lt in
          (omega (arith, both.0, first, here), omega (arith, both.1, last, here)))),
      λ h. refl,
    )
