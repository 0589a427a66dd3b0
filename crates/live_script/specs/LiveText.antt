-- What a live script is answered: a line for each question, by the table published last before it.
use Rattle.std.specs.Prelude.{◌≡◌, ℕ, ℤ, List, [], ◌∷◌, ◌++◌, length, Option, Some, None, codes}
use Rattle.std.specs.Fmt.{decimal}
use Rattle.base.specs.Lines.{line}
use Rattle.controller_table.specs.Tables.{TableModel}
use Rattle.live_script.specs.declared.command.ScriptCommand.{ScriptCommand}
use Rattle.live_script.specs.declared.command.ScriptCommand.TheVariants.{Publish, Ask}
use Rattle.live_script.specs.Questions.{answer_of}
use Rattle.live_script.specs.Scripts.{IsScript}

-- an answer as a word: the number of the input vector, or a sign for none
abbrev pub answer_word : Option ℕ → List ℕ
answer_word None = codes "-"
answer_word (Some u) = decimal u

-- the number of the table that answers, and its answer
abbrev pub answer_line : ℕ → Option ℕ → List ℕ
answer_line number answer = line (decimal number ∷ answer_word answer ∷ [])

-- The text is the line for a question after these tables: the last of them answers, and their count is its number.
pub record IsAnswerLine (tables : List TableModel) (numbers : List ℤ) (text : List ℕ) : Type 0 where
  pub before : List TableModel
  pub table : TableModel
  pub last : tables ≡ before ++ table ∷ []
  pub is : text ≡ answer_line (length tables) (answer_of table numbers)

-- the text is the lines for the questions among commands after these tables
abbrev pub AreAnswers : List TableModel → List ScriptCommand → List ℕ → Type 0
AreAnswers tables [] text = text ≡ []
AreAnswers tables (Publish table ∷ commands) text = AreAnswers (tables ++ table ∷ []) commands text
AreAnswers tables (Ask numbers ∷ commands) text =
    (first rest : List ℕ) × (text ≡ first ++ rest) × IsAnswerLine tables numbers first × AreAnswers tables commands rest

-- The text answers the script.
pub record IsLiveText (script : List ℕ) (text : List ℕ) : Type 0 where
  pub commands : List ScriptCommand
  pub is_script : IsScript script commands
  pub answers : AreAnswers [] commands text
