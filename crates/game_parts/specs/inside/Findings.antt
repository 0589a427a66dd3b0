-- What was found at the cells of all parts.
use Rattle.std.specs.Prelude.{◌≡◌, ℕ, ◌+◌, ◌*◌, ◌<◌, min, List, [], ◌∷◌, length, slice_index_or, sum_by, Option, Some, None}
use Rattle.std.specs.Int.{div_ceil}
use Rattle.grid_quantiser.specs.Axes.{cells_of}
use Rattle.game_core.specs.declared.game.Mark.{Mark}
use Rattle.game_core.specs.Game.{Game}
use Rattle.plant_record.specs.Description.{Description, axes_of}
use Rattle.plant_game.specs.declared.build_fault.BuildFault.{BuildFault}
use Rattle.plant_game.specs.declared.build_fault.BuildFault.TheVariants.{TooManyEdges}
use Rattle.base.specs.declared.limits.TheConstants.{EDGES_LIMIT}
use Rattle.game_parts.specs.declared.part_search.PartFinding.{PartFinding}
use Rattle.game_parts.specs.inside.GameParts.{IsFindingOf}

-- what was found at a part
abbrev pub finding_at : List PartFinding → ℕ → PartFinding
finding_at findings k = slice_index_or findings k (record { edges = 0; first = None })

-- the edges of all parts
abbrev pub edges_found : List PartFinding → ℕ
edges_found findings = sum_by (λ (f : PartFinding). f.edges) findings

-- the first of two cells, where there is one
abbrev pub first_of : Option ℕ → Option ℕ → Option ℕ
first_of None later = later
first_of (Some c) later = Some c

-- the first cell that was found
abbrev pub first_found : List PartFinding → Option ℕ
first_found [] = None
first_found (f ∷ findings) = first_of f.first (first_found findings)

-- There is a finding for each part of so many cells, the last of what is left.
pub record HoldFindings (p : Description) (marks : List Mark) (Fact : Game → ℕ → Type 0) (size : ℕ) (findings : List PartFinding) : Type 0 where
  pub parts : length findings ≡ div_ceil (cells_of (axes_of p)) size
  pub each : (k : ℕ) → k < length findings → IsFindingOf p marks Fact (k * size) (min (cells_of (axes_of p)) (k * size + size)) (finding_at findings k).edges (finding_at findings k).first

-- a fault says how many edges there are, which is more than may be
abbrev pub SaysExcess : ℕ → BuildFault → Type 0
SaysExcess edges fault = (fault ≡ TooManyEdges edges) × (EDGES_LIMIT < edges)
