use Rattle.std.proofs.Common.{◌≡◌, All, take, refl, sym, subst, ◌∙◌, arith}
use Rattle.std.proofs.lemmas.Bool.{false≢true}
use Rattle.std.proofs.lemmas.List.{take_all}
use Rattle.source_lists.specs.Shapes.{cells_from}
use Rattle.source_lists.proofs.PassingCells.{segment_passes_too}
use Rattle.source_lists.proofs.Segments.{no_segment}
use Rattle.source_lists.proofs.shapes.all_pass.Goals as goal

pub returns-then-not-segment_passes : goal.returns-then-not-segment_passes
returns-then-not-segment_passes g c =
    let here = segment_passes_too (g.T.CellTest.passes c.args.test.now) c.args.first c.args.segments.now c.loop-segment.segment-index no_segment c.loop-segment-test.true in
    (λ e. absurd (false≢true e), λ all. absurd (false≢true (sym c.if-not-segment_passes.true ∙ c.segment_passes.ensures.1 (here all))))

pub returns : goal.returns
returns g c =
    let whole : take c.loop-segment.segment-index c.args.segments.now ≡ c.args.segments.now = take_all c.loop-segment.segment-index c.args.segments.now (omega (arith, c.loop-segment-test.false)) in
    (λ e. subst (λ segments. All (g.T.CellTest.passes c.args.test.now) (cells_from c.args.first segments)) whole c.loop-segment.invariant, λ all. refl)
