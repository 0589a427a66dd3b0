use Rattle.grid_quantiser.specs.CellBoxes.{LiesInside}
use Rattle.game_core.specs.declared.game.Mark.TheVariants.{Goal}
use Rattle.plant_record.specs.Description.{axes_of}
use Rattle.plant_game.specs.Marks.{AreMarked}
use Rattle.plant_game.proofs.PlantMarks.{AnyBefore}
use Rattle.plant_game.proofs.marks.mark_targets.Given as goal

-- the cells that lie in one of the targets so far are marked
abbrev pub invariant-loop-k : goal.invariant-loop-k
invariant-loop-k l =
    AreMarked Goal (λ c. AnyBefore (λ b. LiesInside (axes_of l.fn.p) c b.low b.high) l.fn.p.targets l.k) l.fn.marks l.marks
