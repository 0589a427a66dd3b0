-- The grammar of live scripts: which bytes spell which commands.
use Rattle.std.specs.Prelude.{◌≡◌, ℕ, suc, ◌<◌, ◌≤◌, ℤ, List, [], ◌∷◌, ◌++◌, length, map, codes}
use Rattle.std.specs.Fmt.{decimal, signed_decimal}
use Rattle.base.specs.Lines.{line}
use Rattle.controller_table.specs.Tables.{TableModel, IsTableIn}
use Rattle.text_pieces.specs.Steps.{IsReading}
use Rattle.live_script.specs.declared.command.ScriptCommand.{ScriptCommand}
use Rattle.live_script.specs.declared.command.ScriptCommand.TheVariants.{Publish, Ask}
use Rattle.command_line.specs.Command.{AreStateNumbers}
use Rattle.base.specs.declared.limits.TheConstants.{SCRIPT_LIMIT, TABLES_LIMIT}

-- the line before a table's text of so many bytes
abbrev pub publish_line : ℕ → List ℕ
publish_line size = line (codes "publish" ∷ decimal size ∷ [])

-- the line of a question
abbrev pub ask_line : List ℤ → List ℕ
ask_line numbers = line (codes "ask" ∷ map signed_decimal numbers)

-- The bytes are a table's text after the line that says its size.
pub record IsPublishOf (table : TableModel) (bytes : List ℕ) : Type 0 where
  pub text : List ℕ
  pub is_table : IsTableIn table.version text table.plant table.rows
  pub are : bytes ≡ publish_line (length text) ++ text

-- the bytes spell the command
abbrev pub Spell : List ℕ → ScriptCommand → Type 0
Spell bytes (Publish table) = IsPublishOf table bytes
Spell bytes (Ask numbers) = AreStateNumbers numbers × (bytes ≡ ask_line numbers)

-- a command has its position after so many tables: eight are published at most, and a question has a table to answer it
abbrev pub FitsAfter : ℕ → ScriptCommand → Type 0
FitsAfter tables (Publish table) = tables < TABLES_LIMIT
FitsAfter tables (Ask numbers) = 0 < tables

-- how many tables are published after a command
abbrev pub tables_after : ℕ → ScriptCommand → ℕ
tables_after tables (Publish table) = suc tables
tables_after tables (Ask numbers) = tables

-- the tables that commands publish
abbrev pub published_tables : List ScriptCommand → List TableModel
published_tables [] = []
published_tables (Publish table ∷ commands) = table ∷ published_tables commands
published_tables (Ask numbers ∷ commands) = published_tables commands

-- a piece of a script is a command that has its position after those before it
abbrev pub CommandStep : List ScriptCommand → List ℕ → List ScriptCommand → Type 0
CommandStep commands piece more = (c : ScriptCommand) × Spell piece c × FitsAfter (length (published_tables commands)) c × (more ≡ commands ++ c ∷ [])

-- a script is over where no byte is left, after a table
abbrev pub IsScriptEnd : List ScriptCommand → List ℕ → Type 0
IsScriptEnd commands rest = (rest ≡ []) × (0 < length (published_tables commands))

-- the script has at most 67,108,864 bytes
abbrev pub IsShortScript : List ℕ → Type 0
IsShortScript bytes = length bytes ≤ SCRIPT_LIMIT

-- The bytes are a script of these commands, a table first.
pub record IsScript (bytes : List ℕ) (commands : List ScriptCommand) : Type 0 where
  pub short : IsShortScript bytes
  pub reading : IsReading CommandStep IsScriptEnd [] bytes commands []
