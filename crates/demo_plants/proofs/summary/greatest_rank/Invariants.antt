use Rattle.std.proofs.Common.{◌≡◌, take}
use Rattle.std.specs.Prelude.{map}
use Rattle.game_core.specs.Solution.{rank_in, greatest}
use Rattle.demo_plants.proofs.summary.greatest_rank.Given as goal

abbrev pub invariant-loop-cell : goal.invariant-loop-cell
invariant-loop-cell l = l.top ≡ greatest (map rank_in (take l.cell l.answer))
