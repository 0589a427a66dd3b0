use Rattle.std.proofs.Common.{length}
use Rattle.turn_rows.specs.Targets.{IsInTarget}
use Rattle.temporal_games.specs.inside.PatrolSearch.{IsUnderWay, work_left}
use Rattle.temporal_games.proofs.patrol_solver.patrol.Given as goal

abbrev pub invariant-loop-turn : goal.invariant-loop-turn
invariant-loop-turn g l = IsUnderWay (g.G.Graph.game l.g) (IsInTarget l.p) (length l.p.targets) l.turns

abbrev pub decreases-loop-turn : goal.decreases-loop-turn
decreases-loop-turn g l = work_left l.turns
