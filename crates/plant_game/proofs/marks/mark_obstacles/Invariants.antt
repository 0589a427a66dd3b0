use Rattle.grid_quantiser.specs.CellBoxes.{Touches}
use Rattle.game_core.specs.declared.game.Mark.TheVariants.{Obstacle}
use Rattle.plant_record.specs.Description.{axes_of}
use Rattle.plant_game.specs.Marks.{AreMarked}
use Rattle.plant_game.proofs.PlantMarks.{AnyBefore}
use Rattle.plant_game.proofs.marks.mark_obstacles.Given as goal

-- the cells that touch one of the obstacles so far are marked
abbrev pub invariant-loop-k : goal.invariant-loop-k
invariant-loop-k l =
    AreMarked Obstacle (λ c. AnyBefore (λ b. Touches (axes_of l.fn.p) c b.low b.high) l.fn.p.obstacles l.k) l.fn.marks l.marks
