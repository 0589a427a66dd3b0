-- How a run can end, and how it says so.
use Rattle.std.specs.Prelude.{ℕ, List, [], ◌++◌, codes}
use Rattle.std.specs.Fmt.{decimal}
use Rattle.command_line.specs.LimitLines.{limit_line}
use Rattle.command_line.specs.declared.outcome.Refusal.TheVariants.{Malformed, Overflow, Limit, TooManyTurns, ScriptTooLong, TooManyTables, Invalid, NoRow}
use Rattle.command_line.specs.declared.outcome.Failure.TheVariants.{Read, Write, Memory}
use Rattle.command_line.specs.declared.outcome.Outcome.{Outcome}
use Rattle.command_line.specs.declared.outcome.Outcome.TheVariants.{Done, Usage, Refused, Failed}

-- the exit status of a run that ends so, and the line on the error sink
abbrev pub status_and_line : Outcome → ℕ × List ℕ
status_and_line Done = (0, [])
status_and_line Usage = (2, codes "usage\n")
status_and_line (Refused (Malformed line)) = (3, codes "malformed: line " ++ decimal line ++ codes "\n")
status_and_line (Refused (Overflow equation input)) = (4, codes "overflow: equation " ++ decimal equation ++ codes " input " ++ decimal input ++ codes "\n")
status_and_line (Refused (Limit what)) = (5, codes "limit: " ++ limit_line what ++ codes "\n")
status_and_line (Refused TooManyTurns) = (5, codes "limit: turns\n")
status_and_line (Refused ScriptTooLong) = (5, codes "limit: script\n")
status_and_line (Refused TooManyTables) = (5, codes "limit: tables\n")
status_and_line (Refused (Invalid cell)) = (1, codes "invalid: cell " ++ decimal cell ++ codes "\n")
status_and_line (Refused NoRow) = (1, codes "no row\n")
status_and_line (Failed Read) = (6, codes "read fault\n")
status_and_line (Failed Write) = (7, [])
status_and_line (Failed Memory) = (8, codes "no memory\n")

-- the exit status
abbrev pub status_of : Outcome → ℕ
status_of outcome = (status_and_line outcome).0

-- the line on the error sink
abbrev pub line_of : Outcome → List ℕ
line_of outcome = (status_and_line outcome).1
