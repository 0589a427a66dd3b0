-- The limits of a plant that is solved, and which one a plant exceeds.
use Rattle.std.specs.Prelude.{◌*◌, ◌≤◌}
use Rattle.grid_quantiser.specs.Axes.{cells_of}
use Rattle.plant_record.specs.Description.{Description, axes_of, vectors_of}
use Rattle.plant_record.specs.declared.limit_kind.LimitKind.TheVariants.{Vectors, Cells, Pairs}
use Rattle.plant_record.specs.declared.limit_kind.LimitKind.{LimitKind}
use Rattle.plant_record.specs.Plants.{IsPlant}
use Rattle.base.specs.declared.limits.TheConstants.{CELLS_LIMIT, PAIRS_LIMIT, VECTORS_LIMIT}

-- the input vectors of a plant are within their limit
abbrev pub HasFewVectors : Description → Type 0
HasFewVectors p = vectors_of p.inputs ≤ VECTORS_LIMIT

-- the cells of a plant are within their limit
abbrev pub HasFewCells : Description → Type 0
HasFewCells p = cells_of (axes_of p) ≤ CELLS_LIMIT

-- the pairs of a plant are within their limit
abbrev pub HasFewPairs : Description → Type 0
HasFewPairs p = cells_of (axes_of p) * vectors_of p.inputs ≤ PAIRS_LIMIT

-- A plant within the limits on input vectors, cells and pairs.
pub record IsWithinLimits (p : Description) : Type 0 where
  pub plant : IsPlant p
  pub vectors : HasFewVectors p
  pub cells : HasFewCells p
  pub pairs : HasFewPairs p

-- the first limit that a plant exceeds
abbrev pub Exceeds : Description → LimitKind → Type 0
Exceeds p Vectors = HasFewVectors p → ⊥
Exceeds p Cells = HasFewVectors p × (HasFewCells p → ⊥)
Exceeds p Pairs = HasFewVectors p × HasFewCells p × (HasFewPairs p → ⊥)
Exceeds p what = ⊥
