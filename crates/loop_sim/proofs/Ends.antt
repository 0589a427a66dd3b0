-- Where a trace ends.
use Rattle.std.proofs.Common.{ℕ, zero, suc, Bool, true, false, List, [], ◌∷◌, Option, Some, None}
use Rattle.std.specs.Prelude.{ℤ, if◌then◌else◌}
use Rattle.game_core.specs.declared.game.Row.{Row}
use Rattle.grid_quantiser.specs.Cells.{point_of}
use Rattle.plant_record.specs.declared.aims.GoalKind.{GoalKind}
use Rattle.plant_record.specs.Description.{Description}
use Rattle.plant_record.specs.Steps.{step_of}
use Rattle.controller_table.specs.Choice.{row_at, has_arrived}
use Rattle.loop_sim.specs.declared.sim_line.SimLine.{SimLine}
use Rattle.loop_sim.specs.declared.sim_line.SimLine.TheVariants.{At, Arrived, Stopped}
use Rattle.loop_sim.specs.Laws.{EndWithTheirLast}
use Rattle.loop_sim.specs.Noise.{noises_at}
use Rattle.loop_sim.specs.Trace.{sample_lines, trace_lines}

more_lines : (lines : List SimLine) (t : ℕ) (x : List ℤ) (row : Row) → EndWithTheirLast lines → EndWithTheirLast (At t x row ∷ lines)
more_lines [] t x row h = absurd h
more_lines (next ∷ lines) t x row h = (tt, h)

either : (b : Bool) (t : ℕ) (on : List SimLine) → EndWithTheirLast on → EndWithTheirLast (if b then Arrived t ∷ [] else on)
either true t on h = λ no. no
either false t on h = h

sample_ends : (goal : GoalKind) (t : ℕ) (x : List ℤ) (r : Option Row) (on : Row → List SimLine) → ((row : Row) → EndWithTheirLast (on row)) → EndWithTheirLast (sample_lines goal t x r on)
sample_ends goal t x None on h = λ no. no
sample_ends goal t x (Some row) on h =
    more_lines (if has_arrived goal row then Arrived t ∷ [] else on row) t x row (either (has_arrived goal row) t (on row) (h row))

pub trace_ends : (p : Description) (rows : List (Option Row)) (seed left t : ℕ) (x : List ℤ) → EndWithTheirLast (trace_lines p rows seed left t x)
trace_ends p rows seed zero t x = sample_ends p.goal t x (row_at p rows x) (λ row. Stopped t ∷ []) (λ row no. no)
trace_ends p rows seed (suc left) t x =
    sample_ends p.goal t x (row_at p rows x) (λ row. trace_lines p rows seed left (suc t) (point_of (step_of p x row.input (noises_at p seed t)))) (λ row. trace_ends p rows seed left (suc t) (point_of (step_of p x row.input (noises_at p seed t))))
