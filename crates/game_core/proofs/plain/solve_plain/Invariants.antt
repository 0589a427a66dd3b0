use Rattle.std.proofs.Common.{◌-◌, ◌≤◌, length}
use Rattle.game_core.specs.inside.Search.{IsSearched}
use Rattle.game_core.proofs.plain.solve_plain.Given as goal

abbrev pub invariant-loop-head : goal.invariant-loop-head
invariant-loop-head g l = IsSearched (g.G.Graph.game l.g) l.head l.search × (l.head ≤ length l.search.queue)

abbrev pub decreases-loop-head : goal.decreases-loop-head
decreases-loop-head g l = length l.search.rows - l.head
