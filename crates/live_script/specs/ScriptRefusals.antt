-- Which scripts are refused, and why: for their length, or for what stands first after commands in their positions.
use Rattle.std.specs.Prelude.{◌≡◌, ◌≢◌, ◌⊎◌, ℕ, suc, ◌+◌, ◌<◌, ◌≤◌, ℤ, List, [], ◌++◌, length}
use Rattle.controller_table.specs.declared.table_fault.TableFault.{TableFault}
use Rattle.controller_table.specs.declared.table_fault.TableFault.TheVariants as tables
use Rattle.text_pieces.specs.Steps.{joined, IsRead}
use Rattle.row_reading.specs.Counting.{line_count}
use Rattle.controller_table.specs.TableRefusals.{IsTableRefusedFor}
use Rattle.live_script.specs.declared.command.ScriptCommand.{ScriptCommand}
use Rattle.live_script.specs.declared.script_fault.ScriptFault.{ScriptFault}
use Rattle.live_script.specs.declared.script_fault.ScriptFault.TheVariants.{Malformed, Limit, ScriptTooLong, TooManyTables, Memory}
use Rattle.command_line.specs.Command.{AreStateNumbers}
use Rattle.live_script.specs.Scripts.{publish_line, ask_line, published_tables, CommandStep, IsShortScript}
use Rattle.base.specs.declared.limits.TheConstants.{TABLES_LIMIT, TABLE_LIMIT}

-- The bytes begin with the line before a table's text of 1 to 67,108,864 bytes.
pub record Announce (bytes : List ℕ) (size : ℕ) (after : List ℕ) : Type 0 where
  pub some : 1 ≤ size
  pub most : size ≤ TABLE_LIMIT
  pub are : bytes ≡ publish_line size ++ after

-- After so many tables a line is of no command, or a table's text ends too early, or no table stands at all.
pub record IsMalformedAfter (tables : ℕ) (bytes : List ℕ) : Type 0 where
  pub unfinished : bytes ≡ [] → tables ≡ 0
  pub no_table : (size : ℕ) (after : List ℕ) → Announce bytes size after → (tables < TABLES_LIMIT → size ≤ length after) → ⊥
  pub no_question : (numbers : List ℤ) (after : List ℕ) → 0 < tables → AreStateNumbers numbers → bytes ≡ ask_line numbers ++ after → ⊥

-- After so many tables the text of a table is refused.
pub record IsTableRefusedAfter (tables : ℕ) (bytes : List ℕ) (fault : TableFault) : Type 0 where
  pub few : tables < TABLES_LIMIT
  pub text : List ℕ
  pub rest : List ℕ
  pub announced : Announce bytes (length text) (text ++ rest)
  pub refused : IsTableRefusedFor text fault

-- After eight tables another is announced.
pub record IsNinthTable (tables : ℕ) (bytes : List ℕ) : Type 0 where
  pub full : tables ≡ TABLES_LIMIT
  pub size : ℕ
  pub after : List ℕ
  pub announced : Announce bytes size after

-- why the bytes are refused after so many tables, where their first line has this number
abbrev pub IsRefusedAfter : ℕ → ℕ → List ℕ → ScriptFault → Type 0
IsRefusedAfter count number bytes (Malformed n) =
    ((n ≡ number) × IsMalformedAfter count bytes) ⊎ ((line : ℕ) × (n ≡ number + line) × IsTableRefusedAfter count bytes (tables.Malformed line))
IsRefusedAfter count number bytes (Limit what) = IsTableRefusedAfter count bytes (tables.Limit what)
IsRefusedAfter count number bytes ScriptTooLong = ⊥
IsRefusedAfter count number bytes TooManyTables = IsNinthTable count bytes
IsRefusedAfter count number bytes Memory = ⊥

-- there was no memory, or the bytes are refused so after so many tables, where their first line has this number
abbrev pub IsUnreadAfter : ℕ → ℕ → List ℕ → ScriptFault → Type 0
IsUnreadAfter count number bytes fault = fault ≢ Memory → IsRefusedAfter count number bytes fault

-- The script is refused for what stands after the first commands.
pub record IsFirstRefusal (script : List ℕ) (fault : ScriptFault) : Type 0 where
  pub pieces : List (List ℕ)
  pub commands : List ScriptCommand
  pub rest : List ℕ
  pub read : IsRead CommandStep [] script pieces commands rest
  pub refused : IsRefusedAfter (length (published_tables commands)) (suc (line_count (joined pieces))) rest fault

-- why a script is refused; want of memory is the script's fault never
abbrev pub IsScriptRefusedFor : List ℕ → ScriptFault → Type 0
IsScriptRefusedFor script (Malformed line) = IsShortScript script × IsFirstRefusal script (Malformed line)
IsScriptRefusedFor script (Limit what) = IsShortScript script × IsFirstRefusal script (Limit what)
IsScriptRefusedFor script ScriptTooLong = IsShortScript script → ⊥
IsScriptRefusedFor script TooManyTables = IsShortScript script × IsFirstRefusal script TooManyTables
IsScriptRefusedFor script Memory = ⊥
