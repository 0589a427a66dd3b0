-- A command is taken from the front of a script.
use Rattle.std.proofs.Common.{◌≡◌, ℕ, ◌+◌, ◌<◌, List, ◌++◌, length, refl, ap, sym, ◌∙◌, arith, append_assoc, length-append}
use Rattle.std.specs.Prelude.{ℤ}
use Rattle.controller_table.specs.Tables.{TableModel, IsTableIn}
use Rattle.row_reading.specs.Counting.{line_count}
use Rattle.live_script.specs.declared.command.ScriptCommand.TheVariants.{Publish, Ask}
use Rattle.command_line.specs.Command.{AreStateNumbers}
use Rattle.live_script.specs.Scripts.{publish_line, ask_line}
use Rattle.live_script.specs.ScriptRefusals.{Announce}
use Rattle.live_script.specs.ScriptReading.{IsTaken}
use Rattle.live_script.proofs.Counting.{one_in_question, one_before_table}
use Rattle.live_script.proofs.ScriptGrammar.{some_bytes}

pub table_taken : (tables line size : ℕ) (bytes after text rest : List ℕ) (t : TableModel) (count : ℕ) → Announce bytes size after → tables < 8 → IsTableIn t.version text t.plant t.rows → length text ≡ size → after ≡ text ++ rest → count ≡ line_count text
    → IsTaken (record { tables = tables; line = line; rest = bytes }) (Publish t) (record { tables = tables + 1; line = line + (1 + count); rest = rest })
table_taken tables line size bytes after text rest t count told few is size_is cut counted = record {
  first = publish_line (length text) ++ text;
  are = at;
  spells = record { text = text; is_table = is; are = refl };
  fits = few;
  tables = omega arith;
  line = ap (λ (n : ℕ). line + n) (ap (λ (n : ℕ). 1 + n) counted ∙ sym (one_before_table text (omega (arith, told.most, size_is))));
  shorter = omega (arith, ap length at, length-append (publish_line (length text) ++ text) rest, length-append (publish_line (length text)) text, size_is, told.some);
}
  where
    at : bytes ≡ (publish_line (length text) ++ text) ++ rest
    at = told.are ∙ ap (λ (n : ℕ). publish_line n ++ after) (sym size_is) ∙ ap (λ (x : List ℕ). publish_line (length text) ++ x) cut ∙ sym (append_assoc (publish_line (length text)) text rest)

pub question_taken : (tables line : ℕ) (bytes rest : List ℕ) (numbers : List ℤ) → 0 < tables → AreStateNumbers numbers → bytes ≡ ask_line numbers ++ rest
    → IsTaken (record { tables = tables; line = line; rest = bytes }) (Ask numbers) (record { tables = tables; line = line + 1; rest = rest })
question_taken tables line bytes rest numbers some question at = record {
  first = ask_line numbers;
  are = at;
  spells = (question, refl);
  fits = some;
  tables = refl;
  line = ap (λ (n : ℕ). line + n) (sym (one_in_question numbers question));
  shorter = omega (arith, ap length at, length-append (ask_line numbers) rest, some_bytes (ask_line numbers) (Ask numbers) (question, refl));
}
