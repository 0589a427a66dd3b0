use Rattle.grid_quantiser.proofs.ExtentCells.{start_meets, more_meets, box_within}
use Rattle.grid_quantiser.proofs.laws.boxes_grow_by_extents.Goals as goal

pub returns : goal.returns
returns c = record {
  start = start_meets;
  more = λ axes lo hi k found extent grid. more_meets axes lo hi k found extent grid.each;
  within = λ axes lo hi k found grid. box_within axes lo hi k found grid.each;
}
