-- Facts of the crates below, by the statements that stand there.
use Rattle.grid_quantiser.specs.Laws.{DomainHasEnds, CentresAreNear, CentresDependOnTheirIndices, BoxesGrowByExtents}
use Rattle.grid_quantiser.specs.Cells.{centre_of}
use Rattle.grid_quantiser.proofs.CellPoints.{box_from_point, point_from_box}
use Rattle.grid_quantiser.proofs.CentrePoints.{centre_between, near_from_box}
use Rattle.grid_quantiser.proofs.DomainBox.{low_ends, high_ends}
use Rattle.grid_quantiser.proofs.OwnIndices.{centre_index}
use Rattle.grid_quantiser.proofs.ExtentCells.{start_meets, more_meets, box_within}

pub domain_has_ends : DomainHasEnds
domain_has_ends axes grid = (low_ends axes grid.each, high_ends axes grid.each)

pub centres_are_near : CentresAreNear
centres_are_near axes cell grid below = (
  point_from_box axes cell (centre_of axes cell) grid.each below (centre_between axes cell grid.each),
  λ xs point. near_from_box axes cell xs grid.each (box_from_point axes cell xs grid.each point),
)

pub centres_depend_on_their_indices : CentresDependOnTheirIndices
centres_depend_on_their_indices axes cell i grid below within = centre_index axes cell i below within

pub boxes_grow_by_extents : BoxesGrowByExtents
boxes_grow_by_extents = record {
  start = start_meets;
  more = λ axes lo hi k found extent grid. more_meets axes lo hi k found extent grid.each;
  within = λ axes lo hi k found grid. box_within axes lo hi k found grid.each;
}
