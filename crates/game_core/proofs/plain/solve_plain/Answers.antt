use Rattle.std.proofs.Common.{ℕ, ◌+◌, ◌-◌, ◌<◌, ◌≤◌, length, is_some, arith, subst, sym}
use Rattle.std.proofs.lemmas.List.Sums.{count_by-le-length}
use Rattle.game_core.proofs.Gathering.{searched_none, consistent_all}
use Rattle.game_core.proofs.Reach.{solution_from_consistent}
use Rattle.game_core.specs.Game.{Game, IsGame}
use Rattle.game_core.specs.inside.Search.{SearchProgress, IsSearched}
use Rattle.game_core.specs.Solution.{IsReachSolution}
use Rattle.game_core.proofs.plain.solve_plain.Goals as goal

-- with every cell taken the rows are the solution
solution_from_searched : (g : Game) → IsGame g → (p : SearchProgress) (head : ℕ) → length p.queue ≤ head → IsSearched g head p → IsReachSolution g p.rows
solution_from_searched g a p head long h = solution_from_consistent g p.rows a (consistent_all g a p head long h)

-- a cell is left for each step to come
nearer : (g : Game) (head : ℕ) (p q : SearchProgress) → IsSearched g head p → IsSearched g (head + 1) q → head < length q.queue → length q.rows - (head + 1) < length p.rows - head
nearer g head p q h k lt =
    omega (arith, count_by-le-length is_some q.rows)

pub loop-head-init : goal.loop-head-init
loop-head-init g c = (searched_none (g.G.Graph.game c.args.g.now) (g.met.G.Graph.lawful c.args.g.now).game c.gather.new.self c.gather.ensures, omega arith)

pub loop-head-smaller : goal.loop-head-smaller
loop-head-smaller g c = nearer (g.G.Graph.game c.args.g.now) c.loop-head.head c.loop-head.search c.take.new.self c.loop-head.invariant.0 c.take.ensures.searched c.take.ensures.at

pub loop-head-preserved : goal.loop-head-preserved
loop-head-preserved g c = (c.take.ensures.searched, let t = c.take.ensures.at in omega arith)

pub returns : goal.returns
returns g c =
    let game = g.G.Graph.game c.args.g.now in
    subst (IsReachSolution game) {x = c.loop-head.search.rows} (sym c.into_answer.ensures)
    (solution_from_searched game (g.met.G.Graph.lawful c.args.g.now).game c.loop-head.search c.loop-head.head (omega arith) c.loop-head.invariant.0)
