-- A finite game of a controller against disturbances: a mark for each cell, and for each pair of a
-- cell and an input the cells that may come next (a symbolic model, as in Reissig, Weber and Rungger, 2017, section V).
use Rattle.std.specs.Prelude.{◌≡◌, ◌≢◌, ℕ, ◌+◌, ◌*◌, ◌<◌, ◌≤◌, ◌↔◌, List, [], length, slice_index_or, sum_by}
use Rattle.std.specs.List.{All, Contains}
use Rattle.std.specs.List.Sorted.{IsStrictlyIncreasing}
use Rattle.game_core.specs.declared.game.Mark.{Mark}
use Rattle.game_core.specs.declared.game.Mark.TheVariants.{Plain}
use Rattle.base.specs.declared.limits.TheConstants.{CELLS_LIMIT, EDGES_LIMIT, PAIRS_LIMIT, VECTORS_LIMIT}

-- One mark for each cell, and one list of successors for each pair, by the pair's number.
pub record Game : Type 0 where
  pub cells : ℕ
  pub inputs : ℕ
  pub marks : List Mark
  pub successors : List (List ℕ)

-- how many pairs of a cell and an input there are
abbrev pub pairs_of : Game → ℕ
pairs_of g = g.cells * g.inputs

-- the number of the pair of a cell and an input
abbrev pub pair_of : Game → ℕ → ℕ → ℕ
pair_of g c u = c * g.inputs + u

-- the mark of a cell
abbrev pub mark_of : Game → ℕ → Mark
mark_of g c = slice_index_or g.marks c Plain

-- the successors of a pair, by its number
abbrev pub successors_at : Game → ℕ → List ℕ
successors_at g pair = slice_index_or g.successors pair []

-- the successors of a cell under an input
abbrev pub successors_of : Game → ℕ → ℕ → List ℕ
successors_of g c u = successors_at g (pair_of g c u)

-- an input that may be applied at a cell
abbrev pub IsEnabled : Game → ℕ → ℕ → Type 0
IsEnabled g c u = (u < g.inputs) × (successors_of g c u ≢ [])

-- What every game keeps: a mark and successors for all that there is, each successor a cell, once.
pub record IsGame (g : Game) : Type 0 where
  pub one_mark_each : length g.marks ≡ g.cells
  pub one_list_each : length g.successors ≡ pairs_of g
  pub rising : All IsStrictlyIncreasing g.successors
  pub within : All (λ cells. All (λ s. s < g.cells) cells) g.successors

-- A game within the limits of what is kept in memory.
pub record IsGraph (g : Game) : Type 0 where
  pub game : IsGame g
  pub some_cell : 1 ≤ g.cells
  pub cells_bound : g.cells ≤ CELLS_LIMIT
  pub some_input : 1 ≤ g.inputs
  pub inputs_bound : g.inputs ≤ VECTORS_LIMIT
  pub pairs_bound : pairs_of g ≤ PAIRS_LIMIT
  pub edges_bound : sum_by length g.successors ≤ EDGES_LIMIT

-- the same game with other marks
abbrev pub with_marks : Game → List Mark → Game
with_marks g marks = record { cells = g.cells; inputs = g.inputs; marks = marks; successors = g.successors }

-- The pairs that have a cell among their successors, in rising order.
pub record AreSources (g : Game) (c : ℕ) (pairs : List ℕ) : Type 0 where
  pub rising : IsStrictlyIncreasing pairs
  pub exactly : (pair : ℕ) → Contains pairs pair ↔ ((pair < pairs_of g) × Contains (successors_at g pair) c)

-- a pair has successors, and each of them has a property
abbrev pub LeadsOnlyTo : (ℕ → Type 0) → Game → ℕ → Type 0
LeadsOnlyTo Is g pair = (successors_at g pair ≢ []) × All Is (successors_at g pair)
