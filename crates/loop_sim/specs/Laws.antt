-- What holds of every trace.
use Rattle.std.specs.Prelude.{◌≡◌, ℕ, ◌↔◌, ℤ, List, [], ◌∷◌, Option, Some}
use Rattle.game_core.specs.declared.game.Row.{Row}
use Rattle.game_core.specs.Solution.{row_of}
use Rattle.grid_quantiser.specs.Cells.{IsInDomain, cell_of}
use Rattle.plant_record.specs.Description.{Description, axes_of}
use Rattle.plant_record.specs.Plants.{IsPlant}
use Rattle.plant_record.specs.Steps.{IsNoise}
use Rattle.controller_table.specs.Choice.{HasRowAt}
use Rattle.loop_sim.specs.declared.sim_line.SimLine.{SimLine}
use Rattle.loop_sim.specs.declared.sim_line.SimLine.TheVariants.{At, Arrived, Stopped, Lost}
use Rattle.loop_sim.specs.Noise.{noises_at}
use Rattle.loop_sim.specs.Trace.{trace_lines}

-- each noise that is drawn lies in its range
abbrev pub NoisesLieInTheirRanges : Type 0
NoisesLieInTheirRanges = (p : Description) (seed t : ℕ) → IsPlant p → IsNoise p.noises (noises_at p seed t)

-- the row at a state is that of its cell, and there is none outside the domain
abbrev pub RowsStandAtStates : Type 0
RowsStandAtStates = (p : Description) (rows : List (Option Row)) (x : List ℤ) (row : Row) → HasRowAt p rows x row ↔ (IsInDomain (axes_of p) x × (row_of rows (cell_of (axes_of p) x) ≡ Some row))

-- a line of a sample, after which the trace goes on
abbrev pub IsSampleLine : SimLine → Type 0
IsSampleLine (At t x row) = Unit {0}
IsSampleLine (Arrived t) = ⊥
IsSampleLine (Stopped t) = ⊥
IsSampleLine (Lost t x) = ⊥

-- lines of samples, and one line after them that is none
abbrev pub EndWithTheirLast : List SimLine → Type 0
EndWithTheirLast [] = ⊥
EndWithTheirLast (line ∷ []) = IsSampleLine line → ⊥
EndWithTheirLast (line ∷ next ∷ lines) = IsSampleLine line × EndWithTheirLast (next ∷ lines)

-- a trace ends at its first line that is no sample's
abbrev pub TracesEnd : Type 0
TracesEnd = (p : Description) (rows : List (Option Row)) (seed left t : ℕ) (x : List ℤ) → EndWithTheirLast (trace_lines p rows seed left t x)
