use Rattle.std.proofs.Common.{◌≡◌, ℕ, ◌<◌, ◌≤◌, false, length}
use Rattle.temporal_games.specs.inside.PatrolSearch.{is_due}
use Rattle.temporal_games.proofs.turns.PatrolSearch.last_due.Given as goal

-- the turns from here on aren't due
abbrev pub invariant-loop-turn : goal.invariant-loop-turn
invariant-loop-turn l = (j : ℕ) → l.turn ≤ j → j < length l.self.due → is_due l.self.due j ≡ false
