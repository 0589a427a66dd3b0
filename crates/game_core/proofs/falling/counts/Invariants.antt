use Rattle.std.proofs.Common.{◌≡◌, ℕ, ◌<◌, length, get_or}
use Rattle.game_core.specs.inside.Falling.{safe_pairs}
use Rattle.game_core.proofs.falling.counts.Given as goal

-- the numbers so far
abbrev pub invariant-loop-c : goal.invariant-loop-c
invariant-loop-c g l =
    let game = g.G.Graph.game l.g in
    record {
      one_each : length l.counts.items ≡ game.cells;
      so_far : (k : ℕ) → k < l.c → get_or l.counts.items k 0 ≡ safe_pairs game l.safe k;
    }
