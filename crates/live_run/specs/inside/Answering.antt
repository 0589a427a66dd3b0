-- How far a script is answered. No public clause names this.
use Rattle.std.specs.Prelude.{◌≡◌, ◌≢◌, ℕ, suc, ◌+◌, List, [], ◌∷◌, ◌++◌, length, Option, Some, None, IfSome}
use Rattle.controller_table.specs.Tables.{TableModel}
use Rattle.text_pieces.specs.Steps.{joined, IsRead}
use Rattle.row_reading.specs.Counting.{line_count}
use Rattle.live_table.specs.Publishes.{EndsWith}
use Rattle.live_script.specs.declared.command.ScriptCommand.{ScriptCommand}
use Rattle.live_script.specs.declared.command.ScriptCommand.TheVariants.{Publish, Ask}
use Rattle.live_script.specs.declared.script_fault.ScriptFault.{ScriptFault}
use Rattle.live_script.specs.Questions.{answer_of}
use Rattle.live_script.specs.Scripts.{published_tables, CommandStep}
use Rattle.live_script.specs.LiveText.{AreAnswers, answer_line}
use Rattle.live_script.specs.ScriptReading.{Unread}
use Rattle.live_script.specs.ScriptRefusals.{IsScriptRefusedFor}
use Rattle.live_script.specs.declared.script_fault.ScriptFault.TheVariants.{Memory}
use Rattle.live_run.specs.inside.Sessions.{Standing}

-- the last of the tables, if there is one
abbrev pub IsLast : List TableModel → Option TableModel → Type 0
IsLast tables None = tables ≡ []
IsLast tables (Some t) = EndsWith tables t

-- The commands before what is unread are answered by this text, and leave this table in force.
pub record IsAnsweredSoFar (script : List ℕ) (unread : Unread) (standing : Standing) (text : List ℕ) : Type 0 where
  pub pieces : List (List ℕ)
  pub commands : List ScriptCommand
  pub read : IsRead CommandStep [] script pieces commands unread.rest
  pub tables : unread.tables ≡ length (published_tables commands)
  pub line : unread.line ≡ suc (line_count (joined pieces))
  pub answers : AreAnswers [] commands text
  pub count : standing.count ≡ length (published_tables commands)
  pub last : IsLast (published_tables commands) standing.table

-- a command was carried out: its table is the last one, or its line stands after the text
abbrev pub IsExecuted : ScriptCommand → Standing → Standing → List ℕ → List ℕ → Type 0
IsExecuted (Publish t) before after text new = (after ≡ record { count = before.count + 1; table = Some t }) × (new ≡ text)
IsExecuted (Ask numbers) before after text new =
    (after ≡ before) × ((answer : Option ℕ) × IfSome before.table (λ t. answer ≡ answer_of t numbers) × (new ≡ text ++ answer_line before.count answer))

-- there was no memory, or the script is refused so
abbrev pub IsUnanswered : List ℕ → ScriptFault → Type 0
IsUnanswered script fault = fault ≢ Memory → IsScriptRefusedFor script fault
