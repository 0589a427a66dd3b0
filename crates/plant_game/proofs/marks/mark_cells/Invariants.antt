use Rattle.std.proofs.Common.{◌≡◌, ℕ, List, ◌++◌, length}
use Rattle.std.specs.List.{Contains}
use Rattle.plant_game.specs.Marks.{AreMarked}
use Rattle.plant_game.proofs.marks.mark_cells.Given as goal

-- the cells that are done have the mark
abbrev pub invariant-loop-first : goal.invariant-loop-first
invariant-loop-first l = (done : List ℕ) × (l.fn.cells ≡ done ++ l.cells) × AreMarked l.mark (Contains done) l.fn.marks l.marks

abbrev pub decreases-loop-first : goal.decreases-loop-first
decreases-loop-first l = length l.cells
