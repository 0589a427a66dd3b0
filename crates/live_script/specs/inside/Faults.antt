-- The fault of a script for that of a table in it. No public clause names this.
use Rattle.std.specs.Prelude.{ℕ, ◌+◌}
use Rattle.controller_table.specs.declared.table_fault.TableFault.{TableFault}
use Rattle.controller_table.specs.declared.table_fault.TableFault.TheVariants as tables
use Rattle.live_script.specs.declared.script_fault.ScriptFault.{ScriptFault}
use Rattle.live_script.specs.declared.script_fault.ScriptFault.TheVariants.{Malformed, Limit, Memory}

-- after the line of this number: want of memory is want of memory
abbrev pub of_table : ℕ → TableFault → ScriptFault
of_table number (tables.Malformed line) = Malformed (number + line)
of_table number (tables.Limit what) = Limit what
of_table number tables.Memory = Memory
