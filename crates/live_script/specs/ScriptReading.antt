-- How a script is read, one command after the other.
use Rattle.std.specs.Prelude.{◌≡◌, ℕ, ◌+◌, ◌<◌, List, ◌++◌, length}
use Rattle.row_reading.specs.Counting.{line_count}
use Rattle.live_script.specs.declared.command.ScriptCommand.{ScriptCommand}
use Rattle.live_script.specs.Scripts.{Spell, FitsAfter, tables_after}

-- What of a script is unread: how many tables are published before it, the number of its first line, and its bytes.
pub record Unread : Type 0 where
  pub tables : ℕ
  pub line : ℕ
  pub rest : List ℕ

-- A command was taken from the front of what was unread.
pub record IsTaken (before : Unread) (command : ScriptCommand) (after : Unread) : Type 0 where
  pub first : List ℕ
  pub are : before.rest ≡ first ++ after.rest
  pub spells : Spell first command
  pub fits : FitsAfter before.tables command
  pub tables : after.tables ≡ tables_after before.tables command
  pub line : after.line ≡ before.line + line_count first
  pub shorter : length after.rest < length before.rest
