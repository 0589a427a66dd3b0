-- The trace of a plant in closed loop with the rows of a table.
use Rattle.std.specs.Prelude.{ℕ, zero, suc, ℤ, List, [], ◌∷◌, Option, Some, None, if◌then◌else◌}
use Rattle.game_core.specs.declared.game.Row.{Row}
use Rattle.grid_quantiser.specs.Cells.{point_of}
use Rattle.plant_record.specs.declared.aims.GoalKind.{GoalKind}
use Rattle.plant_record.specs.Description.{Description}
use Rattle.plant_record.specs.States.{state_point}
use Rattle.plant_record.specs.Steps.{step_of}
use Rattle.controller_table.specs.Tables.{TableModel}
use Rattle.controller_table.specs.Choice.{row_at, HasRowAt, has_arrived}
use Rattle.loop_sim.specs.declared.sim_line.SimLine.{SimLine}
use Rattle.loop_sim.specs.declared.sim_line.SimLine.TheVariants.{At, Arrived, Stopped, Lost}
use Rattle.loop_sim.specs.Noise.{noises_at}

-- the lines of the sample at time t with state x and this row of its cell, where the lines on follow if the plant
-- has not arrived
abbrev pub sample_lines : GoalKind → ℕ → List ℤ → Option Row → (Row → List SimLine) → List SimLine
sample_lines goal t x None on = Lost t x ∷ []
sample_lines goal t x (Some row) on = At t x row ∷ (if has_arrived goal row then Arrived t ∷ [] else on row)

-- the lines from the sample at time t and state x on, where at most `left` further samples follow
abbrev pub trace_lines : Description → List (Option Row) → ℕ → ℕ → ℕ → List ℤ → List SimLine
trace_lines p rows seed zero t x = sample_lines p.goal t x (row_at p rows x) (λ row. Stopped t ∷ [])
trace_lines p rows seed (suc left) t x =
    sample_lines p.goal t x (row_at p rows x) (λ row. trace_lines p rows seed left (suc t) (point_of (step_of p x row.input (noises_at p seed t))))

-- a table has a row at a state
abbrev pub HasSomeRowAt : TableModel → List ℤ → Type 0
HasSomeRowAt t x = (row : Row) × HasRowAt t.plant t.rows x row

-- the lines of the trace from a state's point, with at most n samples after the first
abbrev pub trace_from : TableModel → ℕ → ℕ → List ℤ → List SimLine
trace_from t seed n x = trace_lines t.plant t.rows seed n 0 (state_point t.plant x)
