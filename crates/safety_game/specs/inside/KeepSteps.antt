-- What a worker does for a pair.
use Rattle.std.specs.Prelude.{◌≡◌, ℕ, ◌+◌, ◌-◌, ◌/◌, ◌==◌, Bool, true, false, not, ◌&&◌, cond, [], ◌∷◌, ◌++◌, length}
use Rattle.board_rounds.specs.Crew.{logged_cells}
use Rattle.cell_counters.specs.BoardModels.{HandModel, with_cut}
use Rattle.game_core.specs.Fallen.{is_obstacle}
use Rattle.game_core.specs.Game.{Game, mark_of, pairs_of, successors_at}

-- the first cut of a pair whose cell is no obstacle
abbrev pub is_first_cut : Game → ℕ → ℕ → Bool
is_first_cut g pair left = (left == length (successors_at g pair) - 1) && not (is_obstacle (mark_of g (pair / g.inputs)))

-- a worker has cut a pair, and answers whether that cut its cell
pub record CutsFirst (g : Game) (pair : ℕ) (before after : HandModel) (first_cut : Bool) : Type 0 where
  pub left : ℕ
  pub taken : after ≡ record before { account = with_cut before.account pair left }
  pub told : first_cut ≡ is_first_cut g pair left

-- a worker has cut a cell, and logged it where nothing was left
pub record CellCuts (g : Game) (cell : ℕ) (before after : HandModel) : Type 0 where
  pub left : ℕ
  pub at : after.board ≡ before.board
  pub cuts : after.account.cuts ≡ before.account.cuts ++ record { counter = pairs_of g + cell; left = left } ∷ []
  pub offers : after.account.offers ≡ before.account.offers
  pub notes : after.account.notes ≡ before.account.notes
  pub logs : logged_cells after.account.logs ≡ logged_cells before.account.logs ++ cond (left == 0) (cell ∷ []) []

-- a worker has cut a cell after a pair's first cut, and else done nothing
abbrev pub CellCutsAfter : Game → ℕ → Bool → HandModel → HandModel → Type 0
CellCutsAfter g cell true before after = CellCuts g cell before after
CellCutsAfter g cell false before after = after ≡ before

-- a worker has cut a pair, and then its cell where that was the pair's first cut
pub record Cuts (g : Game) (pair : ℕ) (before after : HandModel) : Type 0 where
  pub between : HandModel
  pub first_cut : Bool
  pub takes : CutsFirst g pair before between first_cut
  pub cell_cuts : CellCutsAfter g (pair / g.inputs) first_cut between after
