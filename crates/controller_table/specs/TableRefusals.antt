-- Which texts are refused as tables, and why: the first reason that applies.
use Rattle.std.specs.Prelude.{ℕ, ◌≤◌, List, length}
use Rattle.controller_table.specs.declared.table_fault.TableFault.{TableFault}
use Rattle.controller_table.specs.HeadedTexts.{AnyTable, IsTextRefusedFor, text_fault}
use Rattle.base.specs.declared.limits.TheConstants.{TABLE_LIMIT}

-- the text has at most 67,108,864 bytes
abbrev pub IsShortTable : List ℕ → Type 0
IsShortTable bytes = length bytes ≤ TABLE_LIMIT

-- why bytes are no table: there are more than 67,108,864, or by the first line of either version, the plant and its rows
abbrev pub IsTableRefusedFor : List ℕ → TableFault → Type 0
IsTableRefusedFor bytes fault = IsTextRefusedFor AnyTable bytes (text_fault fault)
