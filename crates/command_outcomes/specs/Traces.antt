-- Whether a table has a row for a start, and what is written of the plant that it drives from there.
use Rattle.std.specs.Prelude.{◌≡◌, ◌≢◌, ◌⊎◌, ℕ, ℤ, List, length, Option, Some, None}
use Rattle.grid_quantiser.specs.Cells.{point_of}
use Rattle.plant_record.specs.Description.{Description}
use Rattle.successor_box.specs.Deviations.{HasNoOverflow}
use Rattle.game_core.specs.declared.game.Row.{Row}
use Rattle.controller_table.specs.Tables.{IsTable}
use Rattle.controller_table.specs.Choice.{row_at}
use Rattle.loop_sim.specs.TraceText.{trace_text}

-- The start has one number for each state of the plant, and as a state lies in a cell with a row.
pub record HasRowFor (p : Description) (rows : List (Option Row)) (start : List ℤ) : Type 0 where
  pub one_each : length start ≡ length p.states
  pub row : Row
  pub has : row_at p rows (point_of start) ≡ Some row

-- the start has another number of numbers, or as a state lies outside the domain or in a cell without a row
abbrev pub HasNoRowFor : Description → List (Option Row) → List ℤ → Type 0
HasNoRowFor p rows start = (length start ≢ length p.states) ⊎ (row_at p rows (point_of start) ≡ None)

-- The text is the trace, from the start, of the plant under the rows of the table that the bytes are, under noises that
-- the seed decides, with at most so many samples after the first.
pub record IsTraceFor (bytes : List ℕ) (samples seed : ℕ) (start : List ℤ) (text : List ℕ) : Type 0 where
  pub plant : Description
  pub rows : List (Option Row)
  pub table : IsTable bytes plant rows
  pub fits : HasNoOverflow plant
  pub begins : HasRowFor plant rows start
  pub text_is : text ≡ trace_text plant rows (point_of start) seed samples
