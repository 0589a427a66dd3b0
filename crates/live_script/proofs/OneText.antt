-- The answers of a script are one text.
use Rattle.std.proofs.Common.{◌≡◌, ℕ, List, [], ◌∷◌, ◌++◌, length, sym, ap, ap₂, subst, ◌∙◌}
use Rattle.std.specs.Prelude.{ℤ}
use Rattle.controller_table.specs.Tables.{TableModel}
use Rattle.live_script.specs.declared.command.ScriptCommand.{ScriptCommand}
use Rattle.live_script.specs.declared.command.ScriptCommand.TheVariants.{Publish, Ask}
use Rattle.live_script.specs.Questions.{answer_of}
use Rattle.live_script.specs.LiveText.{answer_line, IsAnswerLine, AreAnswers}
use Rattle.live_script.specs.Laws.{OneLiveText}
use Rattle.live_script.proofs.ScriptLaws.{one_script}
use Rattle.base.proofs.Lists.{same_last}

one_line : (tables : List TableModel) (numbers : List ℤ) (a b : List ℕ) → IsAnswerLine tables numbers a → IsAnswerLine tables numbers b → a ≡ b
one_line tables numbers a b h k =
    let last = same_last h.before k.before h.table k.table (sym h.last ∙ k.last) in
    h.is ∙ ap (λ (t : TableModel). answer_line (length tables) (answer_of t numbers)) last ∙ sym k.is

one_list_of_answers : (tables : List TableModel) (commands : List ScriptCommand) (a b : List ℕ) → AreAnswers tables commands a → AreAnswers tables commands b → a ≡ b
one_list_of_answers tables [] a b h k = h ∙ sym k
one_list_of_answers tables (Publish table ∷ commands) a b h k = one_list_of_answers (tables ++ table ∷ []) commands a b h k
one_list_of_answers tables (Ask numbers ∷ commands) a b h k =
    let first = one_line tables numbers h.0 k.0 h.3 k.3 in
    let rest = one_list_of_answers tables commands h.1 k.1 h.4 k.4 in
    h.2 ∙ ap₂ (λ (x y : List ℕ). x ++ y) first rest ∙ sym k.2

pub one_live_text : OneLiveText
one_live_text bytes a b h k =
    let same = one_script bytes h.commands k.commands h.is_script k.is_script in
    one_list_of_answers [] k.commands a b (subst (λ (cs : List ScriptCommand). AreAnswers [] cs a) same h.answers) k.answers
