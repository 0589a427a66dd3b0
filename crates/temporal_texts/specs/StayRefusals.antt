-- Which texts are refused as stay texts, and why: the first reason that applies.
use Rattle.std.specs.Prelude.{ℕ, List}
use Rattle.controller_table.specs.declared.table_fault.TableFault.{TableFault}
use Rattle.controller_table.specs.declared.text_kind.TextKind.TheVariants.{Stay}
use Rattle.controller_table.specs.HeadedTexts.{Only, IsTextRefusedFor, text_fault}

-- why bytes are no stay text: there are more than 67,108,864, or by the first line `stay 1`, the plant and its rows
abbrev pub IsStayRefusedFor : List ℕ → TableFault → Type 0
IsStayRefusedFor bytes fault = IsTextRefusedFor (Only Stay) bytes (text_fault fault)
