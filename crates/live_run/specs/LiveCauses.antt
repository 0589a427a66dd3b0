-- How a run ends by the fault of a layer below.
use Rattle.live_script.specs.declared.script_fault.ScriptFault.{ScriptFault}
use Rattle.live_script.specs.declared.script_fault.ScriptFault.TheVariants as scripts
use Rattle.command_line.specs.declared.outcome.Refusal.TheVariants.{Malformed, Limit, ScriptTooLong, TooManyTables}
use Rattle.command_line.specs.declared.outcome.Failure.TheVariants.{Memory}
use Rattle.command_line.specs.declared.outcome.Outcome.{Outcome}
use Rattle.command_line.specs.declared.outcome.Outcome.TheVariants.{Refused, Failed}

-- the end of a run whose script has this fault
abbrev pub of_script : ScriptFault → Outcome
of_script (scripts.Malformed line) = Refused (Malformed line)
of_script (scripts.Limit what) = Refused (Limit what)
of_script scripts.ScriptTooLong = Refused ScriptTooLong
of_script scripts.TooManyTables = Refused TooManyTables
of_script scripts.Memory = Failed Memory
