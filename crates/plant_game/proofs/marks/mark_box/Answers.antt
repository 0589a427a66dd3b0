use Rattle.std.proofs.Common.{subst}
use Rattle.std.specs.Prelude.{Option, IfSome}
use Rattle.grid_quantiser.specs.declared.boxes.CellBox.{CellBox}
use Rattle.grid_quantiser.specs.CellBoxes.{IsCellBox}
use Rattle.plant_game.proofs.Marking.{box_below}
use Rattle.plant_game.proofs.marks.mark_box.Goals as goal

pub mark_cells-requires : goal.mark_cells-requires
mark_cells-requires c =
    let axes = c.args.grid.now in
    let b = c.in-Some.b in
    let box : IsCellBox axes b.first b.last = subst (λ (o : Option CellBox). IfSome o (λ (b : CellBox). IsCellBox axes b.first b.last)) c.in-Some.is c.requires.ordered in
    rw (c.segments.ensures, c.requires.one_each) (box_below axes b.first b.last box)
