-- What a table says to do at a state: the static quantiser with one input for each cell (Reissig, Weber and
-- Rungger, 2017, section VI).
use Rattle.std.specs.Prelude.{◌≡◌, ℕ, ◌==◌, ◌&&◌, Bool, true, false, ℤ, int_le, int_lt, List, [], ◌∷◌, Option, Some, None, option_and_then, if◌then◌else◌}
use Rattle.game_core.specs.declared.game.Row.{Row}
use Rattle.game_core.specs.Solution.{row_of}
use Rattle.grid_quantiser.specs.declared.axis.Axis.{Axis}
use Rattle.grid_quantiser.specs.Axes.{end_of}
use Rattle.grid_quantiser.specs.Cells.{cell_of}
use Rattle.plant_record.specs.declared.aims.GoalKind.{GoalKind}
use Rattle.plant_record.specs.declared.aims.GoalKind.TheVariants.{Reach, Keep}
use Rattle.plant_record.specs.Description.{Description, axes_of}
use Rattle.controller_table.specs.Tables.{IsTable}

-- whether a state lies in the domain
abbrev pub is_in_domain : List Axis → List ℤ → Bool
is_in_domain [] xs = true
is_in_domain (a ∷ axes) [] = false
is_in_domain (a ∷ axes) (x ∷ xs) = int_le a.lo x && int_lt x (end_of a) && is_in_domain axes xs

-- the row of the cell in which a state lies
abbrev pub row_at : Description → List (Option Row) → List ℤ → Option Row
row_at p rows x = if is_in_domain (axes_of p) x then row_of rows (cell_of (axes_of p) x) else None

-- the state lies in a cell with this row
abbrev pub HasRowAt : Description → List (Option Row) → List ℤ → Row → Type 0
HasRowAt p rows x row = row_at p rows x ≡ Some row

-- at rank 0 a plant that is to be brought to its targets is there
abbrev pub has_arrived : GoalKind → Row → Bool
has_arrived Reach row = row.rank == 0
has_arrived Keep row = false

-- what a row applies: its input, or nothing where the plant has arrived
abbrev pub applied : GoalKind → Row → Option ℕ
applied goal row = if has_arrived goal row then None else Some row.input

-- what the row of a state's cell applies
abbrev pub choice_at : Description → List (Option Row) → List ℤ → Option ℕ
choice_at p rows x = option_and_then (applied p.goal) (row_at p rows x)

-- the state lies in a cell whose row applies the input
abbrev pub Chooses : Description → List (Option Row) → List ℤ → ℕ → Type 0
Chooses p rows x u = choice_at p rows x ≡ Some u

-- The bytes are a table that chooses the input at the state.
pub record IsChoice (bytes : List ℕ) (x : List ℤ) (u : ℕ) : Type 0 where
  pub plant : Description
  pub rows : List (Option Row)
  pub table : IsTable bytes plant rows
  pub chosen : Chooses plant rows x u

-- The bytes are a table in which the state lies in a cell with a row of this rank.
pub record HasRank (bytes : List ℕ) (x : List ℤ) (rank : ℕ) : Type 0 where
  pub plant : Description
  pub rows : List (Option Row)
  pub table : IsTable bytes plant rows
  pub row : Row
  pub has : HasRowAt plant rows x row
  pub ranked : row.rank ≡ rank
