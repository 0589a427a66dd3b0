-- A plant exceeds one limit at most, and none where it is within all.
use Rattle.std.proofs.Common.{◌≡◌, ◌^◌, ◌<◌, refl, arith}
use Rattle.grid_quantiser.specs.Axes.{cells_of}
use Rattle.plant_record.specs.declared.limit_kind.LimitKind.{LimitKind}
use Rattle.plant_record.specs.declared.limit_kind.LimitKind.TheVariants.{PlantText, TableText, Vectors, Cells, Pairs, Edges}
use Rattle.plant_record.specs.Description.{Description, axes_of, vectors_of}
use Rattle.plant_record.specs.Limits.{IsWithinLimits, Exceeds}

pub one_limit : (r : Description) (a b : LimitKind) → Exceeds r a → Exceeds r b → a ≡ b
one_limit r Vectors Vectors f g = refl
one_limit r Vectors Cells f g = absurd (f g.0)
one_limit r Vectors Pairs f g = absurd (f g.0)
one_limit r Cells Vectors f g = absurd (g f.0)
one_limit r Cells Cells f g = refl
one_limit r Cells Pairs f g = absurd (f.1 g.1)
one_limit r Pairs Vectors f g = absurd (g f.0)
one_limit r Pairs Cells f g = absurd (g.1 f.1)
one_limit r Pairs Pairs f g = refl
one_limit r PlantText b f g = absurd f
one_limit r TableText b f g = absurd f
one_limit r Edges b f g = absurd f
one_limit r Vectors PlantText f g = absurd g
one_limit r Vectors TableText f g = absurd g
one_limit r Vectors Edges f g = absurd g
one_limit r Cells PlantText f g = absurd g
one_limit r Cells TableText f g = absurd g
one_limit r Cells Edges f g = absurd g
one_limit r Pairs PlantText f g = absurd g
one_limit r Pairs TableText f g = absurd g
one_limit r Pairs Edges f g = absurd g

-- a plant within the limits exceeds none
pub exceeds_none : (p : Description) (what : LimitKind) → IsWithinLimits p → Exceeds p what → ⊥
exceeds_none p PlantText within e = e
exceeds_none p TableText within e = e
exceeds_none p Vectors within e = e within.vectors
exceeds_none p Cells within e = e.1 within.cells
exceeds_none p Pairs within e = e.2 within.pairs
exceeds_none p Edges within e = e

-- the numbers of cells and of vectors have 32 bits
pub small_cells : (p : Description) → IsWithinLimits p → cells_of (axes_of p) < 2 ^ 32
small_cells p within = let few = within.cells in omega (arith, few)

pub small_vectors : (p : Description) → IsWithinLimits p → vectors_of p.inputs < 2 ^ 32
small_vectors p within = let few = within.vectors in omega (arith, few)
