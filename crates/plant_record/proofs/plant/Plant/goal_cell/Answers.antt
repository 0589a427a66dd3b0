use Rattle.std.proofs.Common.{length, map}
use Rattle.std.proofs.lemmas.List.{length-map}
use Rattle.plant_record.specs.Description.{axis_of}
use Rattle.plant_record.specs.Parts.{description_of}
use Rattle.plant_record.proofs.lemmas.OrderedBoxes.{boxes_ordered, goal_is}
use Rattle.plant_record.proofs.plant.Plant.goal_cell.Goals as goal

pub lies_in_one-requires-clause-ordered : goal.lies_in_one-requires-clause-ordered
lies_in_one-requires-clause-ordered c =
    rw (c.deref.ensures.value, c.self.invariant.grid)
    (boxes_ordered (length c.self.inside.parts.variables.states.items) (map axis_of c.self.inside.parts.variables.states.items) c.self.inside.parts.targets.items (length-map c.self.inside.parts.variables.states.items axis_of) c.self.invariant.limits.plant.targets)

pub returns-then-lies_in_one : goal.returns-then-lies_in_one
returns-then-lies_in_one c =
    let p = description_of c.self.inside.parts in
    rw (← c.self.view_is)
    (goal_is p c.args.c c.obstacle_cell.result c.lies_in_one.result c.if-lies_in_one.true
    (rw (← c.self.view_is) at c.obstacle_cell.ensures)
    (rw (c.deref.ensures.value, c.self.invariant.grid) at c.lies_in_one.ensures))
