use Rattle.std.proofs.Common.{All, Option, None, length, ap, subst, ◌∙◌, arith}
use Rattle.std.proofs.lemmas.List.{get_or_default}
use Rattle.std.proofs.lemmas.List.Sums.{sum_by_more_le}
use Rattle.grid_quantiser.specs.declared.boxes.CellBox.{CellBox}
use Rattle.successor_box.specs.SuccessorBoxes.{cells_in}
use Rattle.source_lists.specs.Fans.{ShapeIsCounted}
use Rattle.source_lists.proofs.AddedShapes.{none_added, added_more, all_segments_known, keep_segments}
use Rattle.source_lists.proofs.SourceSteps.{kept_box}
use Rattle.source_lists.proofs.known_shapes.KnownShapes.add.Goals as goal

pub loop-b-init : goal.loop-b-init
loop-b-init c = none_added c.args.grid.now c.args.boxes.now c.args.self.now c.requires.known

pub overflow_add-edges : goal.overflow_add-edges
overflow_add-edges c =
    let axes = c.args.grid.now in
    let boxes = c.args.boxes.now in
    let box = kept_box boxes c.loop-b.b-index c.get.result c.b-item.result c.get.ensures c.b-item.is c.loop-b-test.true in
    let count = rw box at c.in_ok-cells.ensures.cells in
    omega (arith, c.from-edges.ensures, count, c.loop-b.invariant.edges_so_far, sum_by_more_le (λ b. length (cells_in axes b)) boxes c.loop-b.b-index None c.loop-b-test.true, c.requires.fits)

pub loop-b-preserved : goal.loop-b-preserved
loop-b-preserved c =
    let axes = c.args.grid.now in
    let boxes = c.args.boxes.now in
    let added = c.in_ok-cells.ensures in
    let box = kept_box boxes c.loop-b.b-index c.get.result c.b-item.result c.get.ensures c.b-item.is c.loop-b-test.true in
    let counted = subst (ShapeIsCounted axes c.add_box.new.self.fans.counts.items) box added.counted in
    let cells = added.cells ∙ ap (λ (o : Option CellBox). length (cells_in axes o)) box in
    rw c.from-edges.ensures
    (added_more axes boxes c.loop-b.b-index c.args.self.now c.loop-b.edges c.in_ok-cells.cells c.loop-b.self.fans.counts.items c.add_box.new.self.fans.counts.items c.loop-b.self.shapes c.add_box.new.self.shapes c.loop-b-test.true c.loop-b.invariant
    added.known added.kept added.segments counted cells)

pub returns-clause-listed : goal.returns-clause-listed
returns-clause-listed c = λ few.
    let axes = c.args.grid.now in
    let boxes = c.args.boxes.now in
    let counts = c.loop-b.self.fans.counts.items in
    let counted : All (ShapeIsCounted axes counts) boxes = λ k d lt. subst (ShapeIsCounted axes counts) (get_or_default boxes k None d lt) (c.loop-b.invariant.counted k (omega (arith, lt, c.loop-b-test.false))) in
    all_segments_known axes c.loop-b.self.shapes counts boxes c.requires.grid c.requires.ordered (c.loop-b.invariant.known_are.listed few) counted

pub returns-clause-kept : goal.returns-clause-kept
returns-clause-kept c =
    let so_far = c.loop-b.invariant in
    record {
      counted = so_far.kept;
      listed = λ boxes ordered has few. keep_segments c.args.grid.now c.args.self.now.shapes c.loop-b.self.shapes c.requires.grid so_far.segments boxes ordered (has (omega (arith, few, so_far.edges_so_far)));
    }
