-- Bytes begin with one command at most.
use Rattle.std.proofs.Common.{◌≡◌, ℕ, ◌≤◌, List, [], ◌∷◌, ◌++◌, length, take, drop, refl, ap, sym, ◌∙◌, subst, arith, append_assoc}
use Rattle.std.specs.Prelude.{ℤ}
use Rattle.std.specs.List.{All}
use Rattle.std.specs.Fmt.{signed_decimal}
use Rattle.std.proofs.Math.Seq.{take-append_seam, drop-append_seam}
use Rattle.std.proofs.lemmas.List.Elements.{All-head, All-tail}
use Rattle.line_words.specs.Numbers.{IsLiteral}
use Rattle.controller_table.specs.Tables.{TableModel, IsTableIn}
use Rattle.row_runs.specs.declared.run.TableVersion.{TableVersion}
use Rattle.row_runs.specs.declared.run.TableVersion.TheVariants.{First, Second}
use Rattle.controller_table.specs.KindTexts.{table_text}
use Rattle.controller_table.proofs.OneTable as tables
use Rattle.controller_table.proofs.ShortTexts as short
use Rattle.live_script.specs.declared.command.ScriptCommand.{ScriptCommand}
use Rattle.live_script.specs.declared.command.ScriptCommand.TheVariants.{Publish, Ask}
use Rattle.command_line.specs.Command.{AreStateNumbers}
use Rattle.live_script.specs.Scripts.{publish_line, ask_line, IsPublishOf, Spell}
use Rattle.live_script.specs.ScriptRefusals.{Announce}
use Rattle.live_script.specs.inside.QuestionWords.{spaced}
use Rattle.live_script.proofs.WordsCut.{one_number_at}
use Rattle.live_script.proofs.QuestionLines.{line_opened, begins, after_word}
use Rattle.live_script.proofs.TableLines.{one_announced, not_asked}

-- ---- tables

some_byte : (text : List ℕ) (t : TableModel) → IsTableIn t.version text t.plant t.rows → 1 ≤ length text
some_byte text t is = longer t.version (ap length is.text)
  where
    longer : (v : TableVersion) → length text ≡ length (table_text v t.plant t.rows) → 1 ≤ length text
    longer First e = omega (arith, e)
    longer Second e = omega (arith, e)

-- the line and the text of a table announce the text
pub announces : (t : TableModel) (bytes rest : List ℕ) (h : IsPublishOf t bytes) → Announce (bytes ++ rest) (length h.text) (h.text ++ rest)
announces t bytes rest h = record {
  some = some_byte h.text t h.is_table;
  most = short.tables_are_short h.text t.plant t.rows (t.version, h.is_table);
  are = ap (λ (x : List ℕ). x ++ rest) h.are ∙ append_assoc (publish_line (length h.text)) h.text rest;
}

-- as many bytes at the front of the same are the same
pub one_text : (v w s t : List ℕ) → length v ≡ length w → v ++ s ≡ w ++ t → (v ≡ w) × (s ≡ t)
one_text v w s t size e = (
  sym (take-append_seam v s) ∙ ap (take (length v)) e ∙ ap (λ (n : ℕ). take n (w ++ t)) size ∙ take-append_seam w t,
  sym (drop-append_seam v s) ∙ ap (drop (length v)) e ∙ ap (λ (n : ℕ). drop n (w ++ t)) size ∙ drop-append_seam w t,
)

-- one table in one version is read from a text
same_table : (text : List ℕ) (t u : TableModel) → IsTableIn t.version text t.plant t.rows → IsTableIn u.version text u.plant u.rows → t ≡ u
same_table text t u h k =
    let one = tables.one_table text t.plant u.plant t.rows u.rows (t.version, h) (u.version, k) in
    λ i. record { version = one.2 i; plant = one.0 i; rows = one.1 i }

-- ---- questions

one_left : (xs ys : List ℤ) (s t : List ℕ) → All IsLiteral xs → All IsLiteral ys → spaced xs ++ 10 ∷ s ≡ spaced ys ++ 10 ∷ t → (xs ≡ ys) × (s ≡ t)
one_left [] [] s t h k e = (refl, cc)
one_left [] (y ∷ ys) s t h k e = absurd (cc)
one_left (x ∷ xs) [] s t h k e = absurd (cc)
one_left (x ∷ xs) (y ∷ ys) s t h k e =
    let after : (signed_decimal x ++ spaced xs) ++ 10 ∷ s ≡ (signed_decimal y ++ spaced ys) ++ 10 ∷ t = cc in
    let one = one_number_at x y (spaced xs ++ 10 ∷ s) (spaced ys ++ 10 ∷ t) (All-head IsLiteral x xs h) (All-head IsLiteral y ys k) (begins xs s) (begins ys t)
    (sym (append_assoc (signed_decimal x) (spaced xs) (10 ∷ s)) ∙ after ∙ append_assoc (signed_decimal y) (spaced ys) (10 ∷ t)) in
    let rest = one_left xs ys s t (All-tail IsLiteral x xs h) (All-tail IsLiteral y ys k) one.1 in
    (ap (λ (z : ℤ). z ∷ xs) one.0 ∙ ap (λ (zs : List ℤ). y ∷ zs) rest.0, rest.1)

one_question : (xs ys : List ℤ) (s t : List ℕ) → AreStateNumbers xs → AreStateNumbers ys → ask_line xs ++ s ≡ ask_line ys ++ t → (xs ≡ ys) × (s ≡ t)
one_question xs ys s t h k e =
    one_left xs ys s t h.each k.each (after_word (spaced xs ++ 10 ∷ s) (spaced ys ++ 10 ∷ t) (sym (line_opened xs s) ∙ e ∙ line_opened ys t))

-- ---- commands

-- Two commands at the front of the same bytes, and what stands after them.
pub record AreOne (c d : ScriptCommand) (s t : List ℕ) : Type 0 where
  pub command : c ≡ d
  pub rest : s ≡ t

pub one_command : (a b : List ℕ) (c d : ScriptCommand) (s t : List ℕ) → Spell a c → Spell b d → a ++ s ≡ b ++ t → AreOne c d s t
one_command a b (Publish t) (Publish u) r s h k e =
    let size = one_announced (a ++ r) (length h.text) (length k.text) (h.text ++ r) (k.text ++ s) (announces t a r h) (subst (λ (x : List ℕ). Announce x (length k.text) (k.text ++ s)) (sym e) (announces u b s k)) in
    let text = one_text h.text k.text r s size.0 size.1 in
    let one = same_table k.text t u (subst (λ (x : List ℕ). IsTableIn t.version x t.plant t.rows) text.0 h.is_table) k.is_table in
    record { command = ap Publish one; rest = text.1 }
one_command a b (Publish t) (Ask ys) r s h k e =
    absurd (not_asked (a ++ r) (length h.text) (h.text ++ r) (announces t a r h) ys s (e ∙ ap (λ (x : List ℕ). x ++ s) k.1))
one_command a b (Ask xs) (Publish u) r s h k e =
    absurd (not_asked (b ++ s) (length k.text) (k.text ++ s) (announces u b s k) xs r (sym e ∙ ap (λ (x : List ℕ). x ++ r) h.1))
one_command a b (Ask xs) (Ask ys) r s h k e =
    let one = one_question xs ys r s h.0 k.0 (sym (ap (λ (x : List ℕ). x ++ r) h.1) ∙ e ∙ ap (λ (x : List ℕ). x ++ s) k.1) in
    record { command = ap Ask one.0; rest = one.1 }
