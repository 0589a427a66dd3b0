use Rattle.std.proofs.Common.{◌≡◌, take, All}
use Rattle.game_core.specs.Game.{successors_at}
use Rattle.game_core.specs.Solution.{HasRow, greatest_rank}
use Rattle.temporal_games.proofs.best_row.rank_after.Given as goal

-- the successors so far have rows, and this is their greatest rank
abbrev pub invariant-loop-at : goal.invariant-loop-at
invariant-loop-at g l =
    let cells = successors_at (g.G.Graph.game l.g) l.pair in
    record {
      ranked : All (HasRow l.answer) (take l.at cells);
      greatest : greatest_rank l.answer (take l.at cells) ≡ l.greatest;
    }
