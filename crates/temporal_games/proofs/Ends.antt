-- A search with no turn due has the solution.
use Rattle.std.proofs.Common.{◌≡◌, ℕ, ◌<◌, false}
use Rattle.game_core.specs.Game.{Game, IsGame}
use Rattle.turn_rows.specs.Targets.{next_turn}
use Rattle.temporal_games.specs.Patrol.{IsPatrol}
use Rattle.temporal_games.specs.inside.PatrolSearch.{PatrolProgress, IsMarked, is_due, IsUnderWay}
use Rattle.temporal_games.proofs.Patrols.{patrols}

pub ends : (g : Game) (In : ℕ → ℕ → Type 0) (turns : ℕ) (p : PatrolProgress) → IsGame g → ((j : ℕ) → j < turns → next_turn turns j < turns) → ((j : ℕ) → j < turns → is_due p.due j ≡ false) → IsUnderWay g In turns p → IsPatrol g In turns p.rows
ends g In turns p a next_below none h = patrols g a In turns (IsMarked p.marks) p.rows (record {
  one_list_each = h.row_lists;
  one_row_each = λ j lj. (h.solved j lj (none j lj)).one_each;
  inside = λ j s lj ls e. (h.marked j lj).inside s ls e;
  visits = h.visits;
  holds = h.holds;
  solved = λ j c lj lc. (h.solved j lj (none j lj)).each c lc;
  led = λ j s lj ls e. h.led j s lj ls (none (next_turn turns j) (next_below j lj)) e;
}) next_below
