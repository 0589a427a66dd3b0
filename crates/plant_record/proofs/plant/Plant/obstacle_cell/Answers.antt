use Rattle.std.proofs.Common.{length, map}
use Rattle.std.proofs.lemmas.List.{length-map}
use Rattle.plant_record.specs.Description.{axis_of}
use Rattle.plant_record.proofs.lemmas.OrderedBoxes.{boxes_ordered}
use Rattle.plant_record.proofs.plant.Plant.obstacle_cell.Goals as goal

pub touches_one-requires-clause-ordered : goal.touches_one-requires-clause-ordered
touches_one-requires-clause-ordered c =
    rw (c.deref.ensures.value, c.self.invariant.grid)
    (boxes_ordered (length c.self.inside.parts.variables.states.items) (map axis_of c.self.inside.parts.variables.states.items) c.self.inside.parts.obstacles.items (length-map c.self.inside.parts.variables.states.items axis_of) c.self.invariant.limits.plant.obstacles)

pub returns : goal.returns
returns c = rw (← c.self.view_is) (rw (c.deref.ensures.value, c.self.invariant.grid) at c.touches_one.ensures)
