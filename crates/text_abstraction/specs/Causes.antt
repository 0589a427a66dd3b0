-- Why a command has no answer, by the fault of a layer below.
use Rattle.plant_record.specs.declared.limit_kind.LimitKind.TheVariants.{Edges}
use Rattle.plant_text.specs.declared.plant_fault.PlantFault.{PlantFault}
use Rattle.plant_text.specs.declared.plant_fault.PlantFault.TheVariants as plants
use Rattle.controller_table.specs.declared.table_fault.TableFault.{TableFault}
use Rattle.controller_table.specs.declared.table_fault.TableFault.TheVariants as tables
use Rattle.successor_box.specs.declared.slope_fault.SlopeFault.{SlopeFault}
use Rattle.successor_box.specs.declared.slope_fault.SlopeFault.TheVariants as slopes
use Rattle.plant_game.specs.declared.build_fault.BuildFault.{BuildFault}
use Rattle.plant_game.specs.declared.build_fault.BuildFault.TheVariants as builds
use Rattle.run_devices.specs.declared.transfer.ReadFault.{ReadFault}
use Rattle.command_line.specs.declared.outcome.Failure.TheVariants.{Read, Write, Memory}
use Rattle.command_line.specs.declared.outcome.Refusal.{Refusal}
use Rattle.command_line.specs.declared.outcome.Refusal.TheVariants.{Malformed, Overflow, Limit, NoRow}
use Rattle.command_line.specs.declared.outcome.Outcome.{Outcome}
use Rattle.command_line.specs.declared.outcome.Outcome.TheVariants as ends
use Rattle.command_line.specs.Ends.{failure_of}
use Rattle.text_abstraction.specs.declared.stop.Stop.{Stop}
use Rattle.text_abstraction.specs.declared.stop.Stop.TheVariants.{Refused, Failed}

-- there is no memory left
abbrev pub without_memory : Stop
without_memory = Failed Memory

-- the table has no row where the trace would begin
abbrev pub without_row : Stop
without_row = Refused NoRow

-- of the reader of plants
abbrev pub of_plant : PlantFault → Stop
of_plant (plants.Malformed line) = Refused (Malformed line)
of_plant (plants.Limit what) = Refused (Limit what)
of_plant plants.Memory = without_memory

-- of the reader of tables
abbrev pub of_table : TableFault → Stop
of_table (tables.Malformed line) = Refused (Malformed line)
of_table (tables.Limit what) = Refused (Limit what)
of_table tables.Memory = without_memory

-- of the search for overflows
abbrev pub of_slopes : SlopeFault → Stop
of_slopes (slopes.Overflow equation input) = Refused (Overflow equation input)
of_slopes slopes.Memory = without_memory

-- of the builder of the game
abbrev pub of_build : BuildFault → Stop
of_build (builds.TooManyEdges edges) = Refused (Limit Edges)
of_build builds.Memory = without_memory

-- of the source
abbrev pub of_read : ReadFault → Stop
of_read fault = Failed (failure_of fault)

-- how a run ends without an answer
abbrev pub outcome_of : Stop → Outcome
outcome_of (Refused refusal) = ends.Refused refusal
outcome_of (Failed failure) = ends.Failed failure

-- what was read is refused so, or there is no memory
abbrev pub IsStopFor : (Refusal → Type 0) → Stop → Type 0
IsStopFor IsRefusal (Refused refusal) = IsRefusal refusal
IsStopFor IsRefusal (Failed Read) = ⊥
IsStopFor IsRefusal (Failed Write) = ⊥
IsStopFor IsRefusal (Failed Memory) = Unit {0}
