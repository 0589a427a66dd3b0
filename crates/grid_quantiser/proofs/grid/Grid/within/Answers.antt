use Rattle.grid_quantiser.proofs.OverlapCells.{inside_is, same_box}
use Rattle.grid_quantiser.proofs.grid.Grid.within.Goals as goal

pub returns : goal.returns
returns c = same_box c.args.self.now _ _ c.cells_with.result (inside_is c.args.self.now c.args.lo.now c.args.hi.now c.cells_with.ensures.axes.each) c.cells_with.ensures.cells
