use Rattle.std.proofs.Common.{◌≡◌, ℕ, ◌<◌, false}
use Rattle.game_core.specs.Game.{pair_of}
use Rattle.safety_game.specs.inside.KeepRounds.{is_whole}
use Rattle.safety_game.proofs.keep_rule.KeepRule.row.Given as goal

-- no input so far has a whole pair
abbrev pub invariant-loop-input : goal.invariant-loop-input
invariant-loop-input g l =
    let game = g.G.Graph.game l.self.graph.now in
    record {
      same : l.root ≡ l.initial.root;
      none : (u : ℕ) → u < l.input → is_whole game l.initial.root.accounts (pair_of game l.c u) ≡ false;
    }
