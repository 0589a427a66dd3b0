use Rattle.temporal_games.specs.inside.BestRows.{IsBestBelow}
use Rattle.temporal_games.proofs.best_row.best_row.Given as goal

-- the best row so far
abbrev pub invariant-loop-input : goal.invariant-loop-input
invariant-loop-input g l = IsBestBelow (g.G.Graph.game l.g) l.answer l.c l.input l.best
