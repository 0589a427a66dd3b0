use Rattle.std.proofs.Common.{◌-◌, Option, None, length, ap, subst, ◌∙◌, arith}
use Rattle.std.specs.Prelude.{IfSome}
use Rattle.std.proofs.lemmas.List.Sums.{sum_by_more_le}
use Rattle.grid_quantiser.specs.declared.boxes.CellBox.{CellBox}
use Rattle.successor_box.specs.SuccessorBoxes.{cells_in}
use Rattle.source_lists.specs.Fans.{IsCounted}
use Rattle.source_lists.proofs.CountedFans.{fans_more, fans_all}
use Rattle.source_lists.proofs.SourceSteps.{kept_box, edges_fit}
use Rattle.source_lists.proofs.fans.count_part.Goals as goal

pub overflow_add-edges : goal.overflow_add-edges
overflow_add-edges c =
    let axes = c.args.grid.now in
    let boxes = c.args.boxes.now in
    let box = kept_box boxes c.loop-b.b-index c.get.result c.b-item.result c.get.ensures c.b-item.is c.loop-b-test.true in
    let count = rw box at c.in_ok-cells.ensures.cells in
    omega (arith, c.from-edges.ensures, count, c.loop-b.invariant.edges_so_far, sum_by_more_le (λ b. length (cells_in axes b)) boxes c.loop-b.b-index None c.loop-b-test.true, edges_fit axes boxes c.requires.grid c.requires.ordered c.cells.ensures.limit c.requires.limit)

pub loop-b-preserved : goal.loop-b-preserved
loop-b-preserved c =
    let axes = c.args.grid.now in
    let boxes = c.args.boxes.now in
    let counted = c.in_ok-cells.ensures in
    let box = kept_box boxes c.loop-b.b-index c.get.result c.b-item.result c.get.ensures c.b-item.is c.loop-b-test.true in
    let here = subst (λ (o : Option CellBox). IfSome o (λ (b : CellBox). IsCounted axes c.count.new.self.counts.items (b.last - b.first))) box counted.counted in
    let cells = counted.cells ∙ ap (λ (o : Option CellBox). length (cells_in axes o)) box in
    rw c.from-edges.ensures
    (fans_more axes boxes c.loop-b.b-index c.loop-b.fans.counts.items c.count.new.self.counts.items c.loop-b.edges c.in_ok-cells.cells c.loop-b-test.true c.loop-b.invariant counted.distances counted.kept here cells counted.few)

pub returns-clause-fans : goal.returns-clause-fans
returns-clause-fans c =
    let axes = c.args.grid.now in
    let boxes = c.args.boxes.now in
    fans_all axes boxes c.loop-b.b-index c.loop-b.fans.counts.items c.loop-b.edges c.requires.grid c.requires.ordered (omega (arith, c.loop-b-test.false)) c.loop-b.invariant
