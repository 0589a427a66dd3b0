-- The first cell of a game of which a fact doesn't hold.
use Rattle.std.specs.Prelude.{◌≡◌, ℕ, ◌<◌, ◌≤◌, Option, Some, None}
use Rattle.game_core.specs.Game.{Game, mark_of, successors_of}

-- At a cell two games have the same mark and successors.
pub record IsSameAt (c : ℕ) (g h : Game) : Type 0 where
  pub cells : h.cells ≡ g.cells
  pub inputs : h.inputs ≡ g.inputs
  pub mark : mark_of h c ≡ mark_of g c
  pub successors : (u : ℕ) → u < g.inputs → successors_of h c u ≡ successors_of g c u

-- the first of the numbers from one up to another of which a fact doesn't hold, where there is one
abbrev pub IsFirstFailure : (ℕ → Type 0) → ℕ → ℕ → Option ℕ → Type 0
IsFirstFailure Fact from to None = (c : ℕ) → from ≤ c → c < to → Fact c
IsFirstFailure Fact from to (Some c) = (from ≤ c) × (c < to) × (Fact c → ⊥) × ((b : ℕ) → from ≤ b → b < c → Fact b)
