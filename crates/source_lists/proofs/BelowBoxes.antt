-- Facts of the cells of boxes, by the statements that stand in the crate below.
use Rattle.std.proofs.Common.{get_or}
use Rattle.std.proofs.lemmas.List.Elements.{Contains-get_or}
use Rattle.grid_quantiser.specs.CellBoxes.{cells_between}
use Rattle.grid_quantiser.specs.Laws.{CellsLieBetweenCorners, BoxesAreShiftedShapes}
use Rattle.grid_quantiser.proofs.BetweenCells.{between_from_contains, between_by_coordinate}
use Rattle.grid_quantiser.proofs.BoxCells.{corners_below, box_ordered}
use Rattle.grid_quantiser.proofs.BoxShapes.{shape_box}
use Rattle.grid_quantiser.proofs.BoxNth.{shifted_shape}

pub cells_lie_between_corners : CellsLieBetweenCorners
cells_lie_between_corners axes first last grid box k d lt =
    let cells = cells_between axes first last in
    let cell = get_or cells k d in
    between_by_coordinate axes first last cell grid.some_state (between_from_contains axes first last cell grid.each box (Contains-get_or cells k d lt))

pub boxes_are_shifted_shapes : BoxesAreShiftedShapes
boxes_are_shifted_shapes axes first last grid box =
    let below = corners_below axes first last grid.each grid.some_state box in
    record {
      ordered = box_ordered axes first last grid.each below.0 below.1 box;
      shape = shape_box axes first last grid.each box;
      cells = shifted_shape axes first last grid.each below.0 box;
    }
