-- Visits for ever: fewer visits are easier, and what leads on to itself visits for ever.
use Rattle.std.proofs.Common.{ℕ, zero, suc, ◌<◌}
use Rattle.game_core.specs.Game.{Game, IsGame}
use Rattle.game_core.specs.Strategy.{Apply}
use Rattle.turn_rows.specs.Targets.{next_turn}
use Rattle.temporal_games.specs.Visits.{ReachesLater, Visits}
use Rattle.game_core.proofs.Carried.{weaker}

pub reaches_later_weaker : (g : Game) (E F : ℕ → Type 0) → IsGame g → ((s : ℕ) → s < g.cells → E s → F s) → (c : ℕ) → c < g.cells → ReachesLater E g c → ReachesLater F g c
reaches_later_weaker g E F a ends c lt t = (t.0, t.1, weaker g E F a ends (Apply t.0 t.1) c lt t.2)

module _ (g : Game) (a : IsGame g) (In : ℕ → ℕ → Type 0) (turns : ℕ) where
  -- one visit less
  pub fewer : (d j c : ℕ) → c < g.cells → Visits g In turns (suc d) j c → Visits g In turns d j c
  fewer zero j c lt v = v.2.0
  fewer (suc d) j c lt v =
      reaches_later_weaker g (λ s. In j s × Visits g In turns (suc d) (next_turn turns j) s) (λ s. In j s × Visits g In turns d (next_turn turns j) s) a (λ s ls e. (e.0, fewer d (next_turn turns j) s ls e.1)) c lt v

  -- what leads on to itself visits for ever
  pub for_ever : (R : ℕ → ℕ → Type 0) → ((j c : ℕ) → c < g.cells → R j c → ReachesLater (λ s. In j s × R (next_turn turns j) s) g c) → (d j c : ℕ) → c < g.cells → R j c → Visits g In turns d j c
  for_ever R on zero j c lt r = (on j c lt r).2.0
  for_ever R on (suc d) j c lt r =
      reaches_later_weaker g (λ s. In j s × R (next_turn turns j) s) (λ s. In j s × Visits g In turns d (next_turn turns j) s) a (λ s ls e. (e.0, for_ever R on d (next_turn turns j) s ls e.1)) c lt (on j c lt r)

  -- ends that hold all cells with so many visits are reached with one visit more
  pub one_more : (End : ℕ → Type 0) (n j : ℕ) → ((s : ℕ) → s < g.cells → In j s → Visits g In turns n (next_turn turns j) s → End s) → (c : ℕ) → c < g.cells → Visits g In turns (suc n) j c → ReachesLater End g c
  one_more End n j holds c lt v = reaches_later_weaker g (λ s. In j s × Visits g In turns n (next_turn turns j) s) End a (λ s ls e. holds s ls e.0 e.1) c lt v
