-- Which texts are refused as patrol texts, and why: the first reason that applies.
use Rattle.std.specs.Prelude.{ℕ, List}
use Rattle.controller_table.specs.declared.text_fault.TextFault.{TextFault}
use Rattle.controller_table.specs.declared.text_kind.TextKind.TheVariants.{Patrol}
use Rattle.controller_table.specs.HeadedTexts.{Only, IsTextRefusedFor}

-- why bytes are no patrol text: there are more than 134,217,728, or by the first line `patrol 1`, the plant, its number of turns and its rows
abbrev pub IsPatrolRefusedFor : List ℕ → TextFault → Type 0
IsPatrolRefusedFor bytes fault = IsTextRefusedFor (Only Patrol) bytes fault
