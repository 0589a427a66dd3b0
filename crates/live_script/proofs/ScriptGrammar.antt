-- Scripts are a grammar: bytes begin with one command at most.
use Rattle.std.proofs.Common.{◌≡◌, ℕ, ◌<◌, ◌≤◌, List, [], ◌∷◌, ◌++◌, length, length-append, refl, sym, ap, subst, ◌∙◌, arith}
use Rattle.std.specs.Prelude.{ℤ}
use Rattle.std.proofs.lemmas.List.{append_cancel_right}
use Rattle.controller_table.specs.Tables.{TableModel}
use Rattle.text_pieces.specs.Steps.{IsGrammar}
use Rattle.live_script.specs.declared.command.ScriptCommand.{ScriptCommand}
use Rattle.live_script.specs.declared.command.ScriptCommand.TheVariants.{Publish, Ask}
use Rattle.live_script.specs.Scripts.{publish_line, ask_line, Spell, FitsAfter, published_tables, CommandStep, IsScriptEnd}
use Rattle.live_script.specs.inside.QuestionWords.{spaced}
use Rattle.live_script.proofs.OneCommand.{announces, one_command}
use Rattle.live_script.proofs.QuestionLines.{line_opened}

-- ---- the tables of one command more

pub published_table : (commands : List ScriptCommand) (t : TableModel) → published_tables (commands ++ Publish t ∷ []) ≡ published_tables commands ++ t ∷ []
published_table [] t = refl
published_table (Publish u ∷ commands) t = ap (λ (tables : List TableModel). u ∷ tables) (published_table commands t)
published_table (Ask numbers ∷ commands) t = published_table commands t

pub published_question : (commands : List ScriptCommand) (numbers : List ℤ) → published_tables (commands ++ Ask numbers ∷ []) ≡ published_tables commands
published_question [] numbers = refl
published_question (Publish u ∷ commands) numbers = ap (λ (tables : List TableModel). u ∷ tables) (published_question commands numbers)
published_question (Ask others ∷ commands) numbers = published_question commands numbers

-- at most eight tables are published
abbrev pub HasFewTables : List ScriptCommand → Type 0
HasFewTables commands = length (published_tables commands) ≤ 8

pub none_published : HasFewTables []
none_published = omega arith

still_few : (commands : List ScriptCommand) (c : ScriptCommand) → HasFewTables commands → FitsAfter (length (published_tables commands)) c → HasFewTables (commands ++ c ∷ [])
still_few commands (Publish t) few fits = omega (arith, fits, ap length (published_table commands t), length-append (published_tables commands) (t ∷ []))
still_few commands (Ask numbers) few fits = omega (arith, few, ap length (published_question commands numbers))

-- ---- the grammar

pub some_bytes : (first : List ℕ) (c : ScriptCommand) → Spell first c → 0 < length first
some_bytes first (Publish t) h = omega (arith, ap length h.are, length-append (publish_line (length h.text)) h.text, (announces t first [] h).some)
some_bytes first (Ask xs) h = omega (arith, ap length h.1, ap length (line_opened xs []), length-append (ask_line xs) [], length-append (spaced xs) (10 ∷ []))

one_piece : (x y : List ℕ) (c d : ScriptCommand) (rest others : List ℕ) → Spell x c → Spell y d → x ++ rest ≡ y ++ others → x ≡ y
one_piece x y c d rest others first second e = append_cancel_right x y rest (e ∙ ap (λ (z : List ℕ). y ++ z) (sym (one_command x y c d rest others first second e).rest))

one_state : (q m n : List ScriptCommand) (x : List ℕ) → CommandStep q x m → CommandStep q x n → m ≡ n
one_state q m n x a b = a.3 ∙ ap (λ (c : ScriptCommand). q ++ c ∷ []) (one_command x x a.0 b.0 [] [] a.1 b.1 refl).command ∙ sym b.3

pub scripts_are_grammar : IsGrammar CommandStep IsScriptEnd HasFewTables
scripts_are_grammar = record {
  one_piece = λ q m n x y rest others few a b e. one_piece x y a.0 b.0 rest others a.1 b.1 e;
  one_state = λ q m n x few a b. one_state q m n x a b;
  met = λ q m x few step. subst HasFewTables (sym step.3) (still_few q step.0 few step.2);
  some = λ q m behind few step. omega (arith, some_bytes [] step.0 step.1);
  ends = λ q rest few over piece behind r cut step. omega (arith, some_bytes piece step.0 step.1, ap length over.0, ap length cut, length-append piece behind);
}
