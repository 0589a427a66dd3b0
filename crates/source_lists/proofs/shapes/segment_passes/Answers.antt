use Rattle.std.proofs.Common.{refl, sym, ◌∙◌, arith}
use Rattle.std.proofs.lemmas.Bool.{false≢true}
use Rattle.source_lists.proofs.PassingCells.{range_passes, passes_in_range}
use Rattle.source_lists.proofs.shapes.segment_passes.Goals as goal

pub returns-then-not-passes : goal.returns-then-not-passes
returns-then-not-passes g c = (
  λ e. absurd (false≢true e),
  λ all. absurd (false≢true (sym c.if-not-passes.true ∙ c.passes.ensures.1 (passes_in_range (g.T.CellTest.passes c.args.test.now) c.args.first c.args.len all c.loop-c.c (omega (arith, c.loop-c.auto)) (omega (arith, c.loop-c-test.true))))),
)

pub returns : goal.returns
returns g c = (
  λ e. range_passes (g.T.CellTest.passes c.args.test.now) c.args.first c.args.len (λ cell low below. c.loop-c.invariant cell low (omega (arith, below, c.loop-c-test.false))),
  λ all. refl,
)
