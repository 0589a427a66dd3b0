-- The loop of patrol: what stands between its steps, that a step keeps it, and that it ends in the solution.
use Rattle.std.proofs.Common.{◌≡◌, ℕ, suc, ◌<◌, List, length, Option, Some, None, refl, subst}
use Rattle.std.specs.Prelude.{◌↔◌}
use Rattle.game_core.specs.declared.game.Row.{Row}
use Rattle.game_core.specs.Game.{Game, IsGame}
use Rattle.game_core.specs.Strategy.{Apply}
use Rattle.game_core.specs.Solution.{row_of, HasRow}
use Rattle.turn_rows.specs.Targets.{next_turn}
use Rattle.temporal_games.specs.Visits.{ReachesLater, Visits, VisitsOn, IsArrival}
use Rattle.turn_rows.specs.Rows.{rows_for}
use Rattle.temporal_games.specs.Patrol.{IsReachedLaterBy, IsLaterReachRow, IsPatrolRow, IsPatrol}
use Rattle.game_core.proofs.Carried.{weaker}
use Rattle.temporal_games.proofs.ForEver.{reaches_later_weaker, for_ever, one_more}

-- rows for ends that are the same cells are the same rows
pub same_ends : (g : Game) (E F : ℕ → Type 0) → IsGame g → ((s : ℕ) → s < g.cells → E s ↔ F s) → (c : ℕ) → c < g.cells → (row : Row) → IsReachedLaterBy E g c row → IsReachedLaterBy F g c row
same_ends g E F a same c lt row r = record {
  reached = (r.reached.0, weaker g E F a (λ s ls. (same s ls).0) (Apply row.input r.reached.0) c lt r.reached.1, r.reached.2);
  least = λ v next l. r.least v next (weaker g F E a (λ s ls. (same s ls).1) (Apply v next) c lt l);
  first = λ v next l. r.first v next (weaker g F E a (λ s ls. (same s ls).1) (Apply v next) c lt l);
}

-- Arrivals that lie in their targets, hold all cells with so many visits, and have rows for the next turn; and rows that
-- lead to them.
pub record IsStable (g : Game) (In : ℕ → ℕ → Type 0) (turns : ℕ) (Arrives : ℕ → ℕ → Type 0) (rows : List (List (Option Row))) : Type 0 where
  pub one_list_each : length rows ≡ turns
  pub one_row_each : (j : ℕ) → j < turns → length (rows_for rows j) ≡ g.cells
  pub inside : (j s : ℕ) → j < turns → s < g.cells → Arrives j s → In j s
  pub visits : ℕ
  pub holds : (j s : ℕ) → j < turns → s < g.cells → In j s → Visits g In turns visits (next_turn turns j) s → Arrives j s
  pub solved : (j c : ℕ) → j < turns → c < g.cells → IsLaterReachRow (Arrives j) g c (row_of (rows_for rows j) c)
  pub led : (j s : ℕ) → j < turns → s < g.cells → Arrives j s → HasRow (rows_for rows (next_turn turns j)) s

module _ (g : Game) (a : IsGame g) (In : ℕ → ℕ → Type 0) (turns : ℕ) (Arrives : ℕ → ℕ → Type 0) (rows : List (List (Option Row))) (h : IsStable g In turns Arrives rows) (next_below : (j : ℕ) → j < turns → next_turn turns j < turns) where
  -- a cell with a row for a turn
  abbrev Rowed : ℕ → ℕ → Type 0
  Rowed j c = (j < turns) × HasRow (rows_for rows j) c

  reached_later : (j c : ℕ) (row : Row) → j < turns → c < g.cells → row_of (rows_for rows j) c ≡ Some row → IsReachedLaterBy (Arrives j) g c row
  reached_later j c row lj lt e = subst (IsLaterReachRow (Arrives j) g c) e (h.solved j c lj lt)

  leads_on : (j c : ℕ) → c < g.cells → Rowed j c → ReachesLater (λ s. In j s × Rowed (next_turn turns j) s) g c
  leads_on j c lt r =
      let by = reached_later j c r.1.0 r.0 lt r.1.1 in
      reaches_later_weaker g (Arrives j) (λ s. In j s × Rowed (next_turn turns j) s) a (λ s ls e. (h.inside j s r.0 ls e, (next_below j r.0, h.led j s r.0 ls e))) c lt (r.1.0.input, by.reached.0, by.reached.1)

  visits_on : (j c : ℕ) → c < g.cells → Rowed j c → VisitsOn g In turns j c
  visits_on j c lt r = λ d. for_ever g a In turns Rowed leads_on d j c lt r

  arrivals : (j : ℕ) → j < turns → (s : ℕ) → s < g.cells → Arrives j s ↔ IsArrival g In turns j s
  arrivals j lj s ls = (
    λ e. (h.inside j s lj ls e, visits_on (next_turn turns j) s ls (next_below j lj, h.led j s lj ls e)),
    λ e. h.holds j s lj ls e.0 (e.1 h.visits),
  )

  row : (j c : ℕ) → j < turns → c < g.cells → (o : Option Row) → row_of (rows_for rows j) c ≡ o → IsPatrolRow g In turns j c o
  row j c lj lt None e = λ on.
      let none = subst (IsLaterReachRow (Arrives j) g c) e (h.solved j c lj lt) in
      none (one_more g a In turns (Arrives j) h.visits j (λ s ls. h.holds j s lj ls) c lt (on (suc h.visits)))
  row j c lj lt (Some r) e = (
    visits_on j c lt (lj, (r, e)),
    same_ends g (Arrives j) (IsArrival g In turns j) a (arrivals j lj) c lt r (reached_later j c r lj lt e),
  )

  pub patrols : IsPatrol g In turns rows
  patrols = record { one_list_each = h.one_list_each; one_row_each = h.one_row_each; each = λ j c lj lt. row j c lj lt (row_of (rows_for rows j) c) refl }
