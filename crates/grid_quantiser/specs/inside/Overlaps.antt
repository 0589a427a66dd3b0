-- Indices and cells with a part in a box of states, or wholly in it.
use Rattle.std.specs.Prelude.{ℕ, ◌-◌, ◌<◌, ◌≤◌, ◌↔◌, ℤ, ◌≤ℤ◌, List}
use Rattle.grid_quantiser.specs.declared.axis.Axis.{Axis}
use Rattle.grid_quantiser.specs.declared.axis.Overlap.{Overlap}
use Rattle.grid_quantiser.specs.declared.axis.Overlap.TheVariants.{Partial, Whole}
use Rattle.grid_quantiser.specs.declared.axis.CellPoint.{CellPoint}
use Rattle.grid_quantiser.specs.declared.axis.CellPoint.TheVariants.{Low, High}
use Rattle.grid_quantiser.specs.Axes.{cells_of}
use Rattle.grid_quantiser.specs.CellBoxes.{IsAtMost}
use Rattle.grid_quantiser.specs.inside.Spots.{coordinate_of, numbers_of}

-- how many numbers of an index may lie outside at either end of the range: all but one, or none
abbrev pub outside_of : Overlap → ℕ → ℕ
outside_of Partial width = width - 1
outside_of Whole width = 0

-- the number of an index that is not to lie before the range
abbrev pub first_point : Overlap → CellPoint
first_point Partial = High
first_point Whole = Low

-- the number of an index that is not to lie after the range
abbrev pub last_point : Overlap → CellPoint
last_point Partial = Low
last_point Whole = High

-- some number of the index, or each, lies from low to high
abbrev pub HasOverlapIn : Overlap → Axis → ℤ → ℤ → ℕ → Type 0
HasOverlapIn overlap a low high p = (low ≤ℤ high) × (low ≤ℤ coordinate_of (first_point overlap) a p) × (coordinate_of (last_point overlap) a p ≤ℤ high)

-- The first and the last index with such an overlap.
pub record AreIndicesIn (overlap : Overlap) (a : Axis) (low high : ℤ) (first last : ℕ) : Type 0 where
  pub ordered : first ≤ last
  pub below : last < a.count
  pub exactly : (p : ℕ) → p < a.count → ((first ≤ p) × (p ≤ last)) ↔ HasOverlapIn overlap a low high p

-- the index of the cell has such an overlap in each state
abbrev pub HasOverlap : Overlap → List Axis → List ℤ → List ℤ → ℕ → Type 0
HasOverlap overlap axes lo hi c =
    IsAtMost axes lo hi × IsAtMost axes lo (numbers_of (first_point overlap) axes c) × IsAtMost axes (numbers_of (last_point overlap) axes c) hi

-- a cell of the grid has such an overlap in each state
abbrev pub IsCellWith : Overlap → List Axis → List ℤ → List ℤ → ℕ → Type 0
IsCellWith overlap axes lo hi c = (c < cells_of axes) × HasOverlap overlap axes lo hi c
