-- How far a closed loop has run. No public clause names this.
use Rattle.std.specs.Prelude.{◌≡◌, ℕ, suc, zero, ℤ, ◌+◌, ◌*◌, ◌≤◌, List, [], ◌∷◌, length, if◌then◌else◌}
use Rattle.game_core.specs.declared.game.Row.{Row}
use Rattle.grid_quantiser.specs.Cells.{point_of}
use Rattle.plant_record.specs.Steps.{step_of}
use Rattle.plant_record.specs.Description.{Description}
use Rattle.controller_table.specs.Tables.{TableModel}
use Rattle.controller_table.specs.Choice.{has_arrived}
use Rattle.loop_sim.specs.declared.sim_line.SimLine.{SimLine}
use Rattle.loop_sim.specs.declared.closed_loop.Sample.{Sample}
use Rattle.loop_sim.specs.declared.closed_loop.Stage.{Stage}
use Rattle.loop_sim.specs.declared.closed_loop.Stage.TheVariants.{Due, Ending, Over}
use Rattle.loop_sim.specs.declared.sim_line.SimLine.TheVariants.{Arrived, Stopped}
use Rattle.loop_sim.specs.Noise.{generator, noises_at}
use Rattle.loop_sim.specs.Trace.{trace_lines}
use Rattle.base.specs.declared.limits.TheConstants.{SAMPLES_LIMIT}

-- the lines from a sample on
abbrev pub lines_from : TableModel → Sample → List SimLine
lines_from t s = trace_lines t.plant t.rows s.seed s.left s.time s.x

-- the lines that are still to come
abbrev pub lines_left : TableModel → Stage → List SimLine
lines_left t (Due s) = lines_from t s
lines_left t (Ending line) = line ∷ []
lines_left t Over = []

-- the lines after the first line of a sample that has a row and does not end the trace
abbrev pub lines_on : TableModel → ℕ → ℕ → ℕ → List ℤ → Row → List SimLine
lines_on t seed zero time x row = Stopped time ∷ []
lines_on t seed (suc left) time x row =
    trace_lines t.plant t.rows seed left (suc time) (point_of (step_of t.plant x row.input (noises_at t.plant seed time)))

-- the lines after the first line of this sample, which has a row and does not end the trace
abbrev pub lines_past : TableModel → Sample → Row → List SimLine
lines_past t s row = lines_on t s.seed s.left s.time s.x row

-- the lines after the first line of a sample that has a row
abbrev pub lines_after : TableModel → Sample → Row → List SimLine
lines_after t s row =
    if has_arrived t.plant.goal row then Arrived s.time ∷ [] else lines_past t s row

-- A sample before whose noises the generator is at this state.
pub record IsSample (p : Description) (s : Sample) : Type 0 where
  pub state : s.state ≡ generator s.seed (s.time * length p.noises)
  pub bound : s.time + s.left ≤ SAMPLES_LIMIT

-- what is known of the sample that is due
abbrev pub IsStage : Description → Stage → Type 0
IsStage p stage = (s : Sample) → stage ≡ Due s → IsSample p s
