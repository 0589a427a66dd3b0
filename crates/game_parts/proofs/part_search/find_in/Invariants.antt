use Rattle.std.proofs.Common.{◌-◌, length}
use Rattle.pair_boxes.specs.Finders.{plant_of}
use Rattle.game_parts.proofs.PartSteps.{IsDoneTo}
use Rattle.game_parts.proofs.part_search.find_in.Given as goal

abbrev pub invariant-loop-done : goal.invariant-loop-done
invariant-loop-done g l = IsDoneTo (plant_of l.finder) l.marks (g.J.CellJudge.is_right l.judge) l.from l.to l.size l.done (length l.boxes.items) l.known l.first

abbrev pub decreases-loop-done : goal.decreases-loop-done
decreases-loop-done g l = l.to - l.done
