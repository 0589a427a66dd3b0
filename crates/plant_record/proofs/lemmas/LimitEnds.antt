-- A plant is within the limits, or exceeds one.
use Rattle.std.proofs.Common.{inl, inr, ℕ, ◌*◌, ◌^◌, ◌<◌, ◌≤◌, arith}
use Rattle.std.proofs.lemmas.Bool.{cases_lt}
use Rattle.grid_quantiser.specs.Axes.{cells_of}
use Rattle.plant_record.specs.declared.limit_kind.LimitKind.TheVariants.{Vectors, Cells, Pairs}
use Rattle.plant_record.specs.Description.{Description, axes_of, vectors_of}
use Rattle.plant_record.specs.Limits.{IsWithinLimits, Exceeds}
use Rattle.plant_record.specs.Plants.{IsPlant}

not_both : (m n : ℕ) → m < n → n ≤ m → ⊥
not_both m n lt le = omega (arith, lt, le)

-- a plant is within the limits, or exceeds one of three
pub data LimitsEnd (p : Description) : Type 0 where
  is_within : IsWithinLimits p → LimitsEnd p
  has_many_vectors : Exceeds p Vectors → LimitsEnd p
  has_many_cells : Exceeds p Cells → LimitsEnd p
  has_many_pairs : Exceeds p Pairs → LimitsEnd p

pub limits_end : (p : Description) → IsPlant p → LimitsEnd p
limits_end p plant =
    elim (cases_lt 4096 (vectors_of p.inputs)) [
      | inl many ↦ has_many_vectors (not_both 4096 (vectors_of p.inputs) many)
      | inr vectors ↦ elim (cases_lt (2 ^ 20) (cells_of (axes_of p))) [
        | inl many ↦ has_many_cells (vectors, not_both (2 ^ 20) (cells_of (axes_of p)) many)
        | inr cells ↦ elim (cases_lt (2 ^ 22) (cells_of (axes_of p) * vectors_of p.inputs)) [
          | inl many ↦ has_many_pairs (vectors, cells, not_both (2 ^ 22) (cells_of (axes_of p) * vectors_of p.inputs) many)
          | inr pairs ↦ is_within (record { plant = plant; vectors = vectors; cells = cells; pairs = pairs })
        ]
      ]
    ]
