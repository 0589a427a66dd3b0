-- A script is answered command by command.
use Rattle.std.proofs.Common.{◌≡◌, ◌≢◌, ℕ, suc, ◌+◌, ◌<◌, List, [], ◌∷◌, ◌++◌, length, refl, ap, sym, ◌∙◌, subst, arith, append_assoc, append-nil, length-append, Option, Some, None}
use Rattle.std.specs.Prelude.{ℤ, IfSome}
use Rattle.controller_table.specs.Tables.{TableModel}
use Rattle.text_pieces.specs.Steps.{joined, IsRead}
use Rattle.text_pieces.proofs.Laws.{joined_more, read_on}
use Rattle.row_reading.specs.Counting.{line_count}
use Rattle.live_script.specs.declared.command.ScriptCommand.{ScriptCommand}
use Rattle.live_script.specs.declared.command.ScriptCommand.TheVariants.{Publish, Ask}
use Rattle.live_script.specs.declared.script_fault.ScriptFault.{ScriptFault}
use Rattle.live_script.specs.declared.script_fault.ScriptFault.TheVariants.{Malformed, Limit, ScriptTooLong, TooManyTables, Memory}
use Rattle.live_script.specs.Questions.{answer_of}
use Rattle.live_script.specs.Scripts.{FitsAfter, published_tables, CommandStep, IsShortScript}
use Rattle.live_script.specs.LiveText.{IsAnswerLine, AreAnswers, answer_line}
use Rattle.live_script.specs.ScriptReading.{Unread, IsTaken}
use Rattle.live_script.specs.ScriptRefusals.{IsRefusedAfter, IsScriptRefusedFor}
use Rattle.live_run.specs.inside.Sessions.{Standing}
use Rattle.live_run.specs.inside.Answering.{IsLast, IsAnsweredSoFar, IsExecuted, IsUnanswered}
use Rattle.live_script.proofs.Counting.{both_counted}
use Rattle.live_script.proofs.ScriptGrammar.{published_table, published_question}

-- ---- one command more

table_more : (tables : List TableModel) (commands : List ScriptCommand) (text : List ℕ) (t : TableModel) → AreAnswers tables commands text → AreAnswers tables (commands ++ Publish t ∷ []) text
table_more tables [] text t h = h
table_more tables (Publish u ∷ commands) text t h = table_more (tables ++ u ∷ []) commands text t h
table_more tables (Ask numbers ∷ commands) text t h = (h.0, h.1, h.2, h.3, table_more tables commands h.1 t h.4)

question_more : (tables : List TableModel) (commands : List ScriptCommand) (text line : List ℕ) (numbers : List ℤ) → AreAnswers tables commands text → IsAnswerLine (tables ++ published_tables commands) numbers line → AreAnswers tables (commands ++ Ask numbers ∷ []) (text ++ line)
question_more tables [] text line numbers h is =
    (line, [], ap (λ (x : List ℕ). x ++ line) h ∙ sym (append-nil line), subst (λ (ts : List TableModel). IsAnswerLine ts numbers line) (append-nil tables) is, refl)
question_more tables (Publish u ∷ commands) text line numbers h is =
    question_more (tables ++ u ∷ []) commands text line numbers h (subst (λ (ts : List TableModel). IsAnswerLine ts numbers line) (sym (append_assoc tables (u ∷ []) (published_tables commands))) is)
question_more tables (Ask others ∷ commands) text line numbers h is =
    (h.0, h.1 ++ line, ap (λ (x : List ℕ). x ++ line) h.2 ∙ append_assoc h.0 h.1 line, h.3, question_more tables commands h.1 line numbers h.4 is)

-- ---- how far a script is answered

pub nothing_yet : (script : List ℕ) (unread : Unread) (standing : Standing) → unread ≡ record { tables = 0; line = 1; rest = script } → standing ≡ record { count = 0; table = None } → IsAnsweredSoFar script unread standing []
nothing_yet script unread standing u s = rw (u, s) (record { pieces = []; commands = []; read = record { leads = refl; are = refl }; tables = refl; line = refl; answers = refl; count = refl; last = refl })

module _ (script : List ℕ) (before after : Unread) (standing : Standing) (text : List ℕ) (so_far : IsAnsweredSoFar script before standing text) (c : ScriptCommand) (taken : IsTaken before c after) where
  read_more : IsRead CommandStep [] script (so_far.pieces ++ taken.first ∷ []) (so_far.commands ++ c ∷ []) after.rest
  read_more =
      read_on CommandStep [] so_far.commands (so_far.commands ++ c ∷ []) script before.rest taken.first after.rest so_far.pieces so_far.read taken.are
      (c, taken.spells, subst (λ (n : ℕ). FitsAfter n c) so_far.tables taken.fits, refl)

  line_more : after.line ≡ suc (line_count (joined (so_far.pieces ++ taken.first ∷ [])))
  line_more = taken.line ∙ omega (arith, so_far.line, ap line_count (joined_more so_far.pieces taken.first), both_counted (joined so_far.pieces) taken.first)

table_published : (script : List ℕ) (before after : Unread) (old new : Standing) (text : List ℕ) (t : TableModel) → IsAnsweredSoFar script before old text → IsTaken before (Publish t) after → new ≡ record { count = old.count + 1; table = Some t } → IsAnsweredSoFar script after new text
table_published script before after old new text t so_far taken now = rw now (record {
  pieces = so_far.pieces ++ taken.first ∷ [];
  commands = so_far.commands ++ Publish t ∷ [];
  read = read_more script before after old text so_far (Publish t) taken;
  tables = taken.tables ∙ omega (arith, so_far.tables, ap length (published_table so_far.commands t), length-append (published_tables so_far.commands) (t ∷ []));
  line = line_more script before after old text so_far (Publish t) taken;
  answers = table_more [] so_far.commands text t so_far.answers;
  count = omega (arith, so_far.count, ap length (published_table so_far.commands t), length-append (published_tables so_far.commands) (t ∷ []));
  last = (published_tables so_far.commands, published_table so_far.commands t);
})

-- after a question's line there is a table, which answers it
some_last : (tables : List TableModel) (last : Option TableModel) → IsLast tables last → 0 < length tables → (t : TableModel) × (last ≡ Some t) × ((before : List TableModel) × (tables ≡ before ++ t ∷ []))
some_last tables None none some = absurd (omega (arith, ap length none, some))
some_last tables (Some t) h some = (t, refl, h)

question_answered : (script : List ℕ) (before after : Unread) (standing new : Standing) (text : List ℕ) (numbers : List ℤ) (answer : Option ℕ) → IsAnsweredSoFar script before standing text → IsTaken before (Ask numbers) after
    → IfSome standing.table (λ t. answer ≡ answer_of t numbers) → new ≡ standing → IsAnsweredSoFar script after new (text ++ answer_line standing.count answer)
question_answered script before after standing new text numbers answer so_far taken answers now = rw now (record {
  pieces = so_far.pieces ++ taken.first ∷ [];
  commands = so_far.commands ++ Ask numbers ∷ [];
  read = read_more script before after standing text so_far (Ask numbers) taken;
  tables = taken.tables ∙ so_far.tables ∙ ap length (sym (published_question so_far.commands numbers));
  line = line_more script before after standing text so_far (Ask numbers) taken;
  answers = question_more [] so_far.commands text (answer_line standing.count answer) numbers so_far.answers (record {
    before = last.2.0;
    table = last.0;
    last = last.2.1;
    is =
        ap (λ (n : ℕ). answer_line n answer) so_far.count
        ∙ ap (answer_line (length (published_tables so_far.commands))) (subst (λ (o : Option TableModel). IfSome o (λ t. answer ≡ answer_of t numbers)) last.1 answers);
  });
  count = so_far.count ∙ ap length (sym (published_question so_far.commands numbers));
  last = subst (λ (tables : List TableModel). IsLast tables standing.table) (sym (published_question so_far.commands numbers)) so_far.last;
})
  where
    last : (t : TableModel) × (standing.table ≡ Some t) × ((before : List TableModel) × (published_tables so_far.commands ≡ before ++ t ∷ []))
    last = some_last (published_tables so_far.commands) standing.table so_far.last (omega (arith, taken.fits, so_far.tables))

pub executed : (script : List ℕ) (before after : Unread) (old new : Standing) (text longer : List ℕ) (c : ScriptCommand) → IsAnsweredSoFar script before old text → IsTaken before c after → IsExecuted c old new text longer → IsAnsweredSoFar script after new longer
executed script before after old new text longer (Publish t) so_far taken done = rw done.1 (table_published script before after old new text t so_far taken done.0)
executed script before after old new text longer (Ask numbers) so_far taken done = rw done.1.2 (question_answered script before after old new text numbers done.1.0 so_far taken done.1.1 done.0)

-- what is refused after these commands is the script's refusal
refused_after : (script : List ℕ) (unread : Unread) (standing : Standing) (text : List ℕ) (fault : ScriptFault) → IsAnsweredSoFar script unread standing text → IsShortScript script → IsRefusedAfter unread.tables unread.line unread.rest fault → IsScriptRefusedFor script fault
refused_after script unread standing text fault so_far short refused = by_fault fault (rw (← so_far.tables, ← so_far.line) refused)
  where
    by_fault : (f : ScriptFault) → IsRefusedAfter (length (published_tables so_far.commands)) (suc (line_count (joined so_far.pieces))) unread.rest f → IsScriptRefusedFor script f
    by_fault (Malformed line) h = (short, record { pieces = so_far.pieces; commands = so_far.commands; rest = unread.rest; read = so_far.read; refused = h })
    by_fault (Limit what) h = (short, record { pieces = so_far.pieces; commands = so_far.commands; rest = unread.rest; read = so_far.read; refused = h })
    by_fault ScriptTooLong h = absurd h
    by_fault TooManyTables h = (short, record { pieces = so_far.pieces; commands = so_far.commands; rest = unread.rest; read = so_far.read; refused = h })
    by_fault Memory h = absurd h

-- a fault of the reader is the script's refusal, or want of memory
pub stopped : (script : List ℕ) (unread : Unread) (standing : Standing) (text : List ℕ) (fault : ScriptFault) → IsAnsweredSoFar script unread standing text → IsShortScript script → (fault ≢ Memory → IsRefusedAfter unread.tables unread.line unread.rest fault)
    → IsUnanswered script fault
stopped script unread standing text fault so_far short why some = refused_after script unread standing text fault so_far short (why some)
