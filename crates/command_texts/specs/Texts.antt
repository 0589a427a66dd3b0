-- The bytes of what a command writes.
use Rattle.std.specs.Prelude.{◌≡◌, ℕ, ◌≤◌, List, Some}
use Rattle.game_core.specs.declared.game.Row.{Row}
use Rattle.successor_box.specs.Deviations.{HasNoOverflow}
use Rattle.controller_table.specs.KindTexts.{bytes_of_rows, IsOfWrittenVersion}
use Rattle.controller_table.specs.Choice.{row_at}
use Rattle.loop_sim.specs.TraceText.{trace_text}
use Rattle.command_texts.specs.declared.text.Simulation.{Simulation}
use Rattle.command_texts.specs.declared.text.Text.{Text}
use Rattle.command_texts.specs.declared.text.Text.TheVariants.{Rows, Line, Trace, Summary}
use Rattle.base.specs.declared.limits.TheConstants.{SAMPLES_LIMIT}

-- the trace of a simulation
abbrev pub trace_of : Simulation → List ℕ
trace_of s = trace_text s.table.plant s.table.rows s.start s.seed s.samples

-- A simulation that is ready to be written: its plant has no overflow, and there is a row where it begins.
pub record IsReady (s : Simulation) : Type 0 where
  pub fits : HasNoOverflow s.table.plant
  pub samples : s.samples ≤ SAMPLES_LIMIT
  pub row : Row
  pub begins : row_at s.table.plant s.table.rows s.start ≡ Some row

-- the bytes of what a command writes
abbrev pub bytes_of : Text → List ℕ
bytes_of (Rows text) = bytes_of_rows text
bytes_of (Line bytes) = bytes.now
bytes_of (Trace simulation) = trace_of simulation
bytes_of (Summary text) = text.items

-- a table is of the version that is written, and a simulation is ready
abbrev pub CanBeWritten : Text → Type 0
CanBeWritten (Rows text) = IsOfWrittenVersion text
CanBeWritten (Line bytes) = Unit {0}
CanBeWritten (Trace simulation) = IsReady simulation
CanBeWritten (Summary text) = Unit {0}
