-- A script is commands, or has one reason to be refused.
use Rattle.std.proofs.Common.{◌≡◌, ◌⊎◌, ℕ, suc, ◌<◌, List, [], ◌++◌, length, refl, ap, sym, ◌∙◌, subst, arith, length-append, inl, inr}
use Rattle.std.specs.Prelude.{ℤ}
use Rattle.controller_table.specs.declared.table_fault.TableFault.{TableFault}
use Rattle.controller_table.specs.declared.table_fault.TableFault.TheVariants as tables
use Rattle.text_pieces.specs.Steps.{joined, IsFirstRefused}
use Rattle.text_pieces.proofs.Laws as texts
use Rattle.row_reading.specs.Counting.{line_count}
use Rattle.controller_table.specs.Tables.{TableModel}
use Rattle.controller_table.specs.TableRefusals.{IsTableRefusedFor}
use Rattle.controller_table.proofs.OneRefusal as refusals
use Rattle.live_script.specs.declared.command.ScriptCommand.{ScriptCommand}
use Rattle.live_script.specs.declared.command.ScriptCommand.TheVariants.{Publish, Ask}
use Rattle.live_script.specs.declared.script_fault.ScriptFault.{ScriptFault}
use Rattle.live_script.specs.declared.script_fault.ScriptFault.TheVariants.{Malformed, Limit, ScriptTooLong, TooManyTables, Memory}
use Rattle.live_script.specs.Scripts.{ask_line, IsPublishOf, Spell, FitsAfter, published_tables, CommandStep, IsScriptEnd, IsShortScript}
use Rattle.live_script.specs.ScriptRefusals.{Announce, IsMalformedAfter, IsTableRefusedAfter, IsNinthTable, IsRefusedAfter, IsFirstRefusal, IsScriptRefusedFor}
use Rattle.live_script.specs.Laws.{OneScript, OneScriptRefusal, NoScriptIsRefused}
use Rattle.live_script.specs.inside.Faults.{of_table}
use Rattle.live_script.proofs.OneCommand.{announces, one_text}
use Rattle.live_script.proofs.ScriptGrammar.{HasFewTables, none_published, scripts_are_grammar}
use Rattle.live_script.proofs.TableLines.{one_announced, not_asked, announced_is_some}

-- ---- what is refused after some commands

data Reason (n number : ℕ) (bytes : List ℕ) (f : ScriptFault) : Type 0 where
  is_malformed : f ≡ Malformed number → IsMalformedAfter n bytes → Reason n number bytes f
  has_refused_table : (g : TableFault) → f ≡ of_table number g → IsTableRefusedAfter n bytes g → Reason n number bytes f
  has_ninth_table : f ≡ TooManyTables → IsNinthTable n bytes → Reason n number bytes f

reason : (n number : ℕ) (bytes : List ℕ) (f : ScriptFault) → IsRefusedAfter n number bytes f → Reason n number bytes f
reason n number bytes (Malformed line) (inl malformed) = is_malformed (ap Malformed malformed.0) malformed.1
reason n number bytes (Malformed line) (inr table) = has_refused_table (tables.Malformed table.0) (ap Malformed table.1) table.2
reason n number bytes (Limit what) h = has_refused_table (tables.Limit what) refl h
reason n number bytes ScriptTooLong h = absurd h
reason n number bytes TooManyTables h = has_ninth_table refl h
reason n number bytes Memory h = absurd h

-- ---- where something is refused no command stands

module _ (n number : ℕ) (bytes : List ℕ) (f : ScriptFault) (first rest : List ℕ) (at : bytes ≡ first ++ rest) where
  asked : (xs : List ℤ) → first ≡ ask_line xs → bytes ≡ ask_line xs ++ rest
  asked xs is = at ∙ ap (λ (x : List ℕ). x ++ rest) is

  announced : (t : TableModel) (h : IsPublishOf t first) → Announce bytes (length h.text) (h.text ++ rest)
  announced t h = subst (λ (x : List ℕ). Announce x (length h.text) (h.text ++ rest)) (sym at) (announces t first rest h)

  stuck : Reason n number bytes f → (c : ScriptCommand) → Spell first c → FitsAfter n c → ⊥
  stuck (is_malformed e m) (Publish t) h fits = m.no_table (length h.text) (h.text ++ rest) (announced t h) (λ few. omega (arith, length-append h.text rest))
  stuck (is_malformed e m) (Ask xs) h fits = m.no_question xs rest fits h.0 (asked xs h.1)
  stuck (has_refused_table g e r) (Publish t) h fits =
      let same = one_announced bytes (length r.text) (length h.text) (r.text ++ r.rest) (h.text ++ rest) r.announced (announced t h) in
      refusals.no_table_is_refused h.text t.plant t.rows g (t.version, h.is_table) (subst (λ (x : List ℕ). IsTableRefusedFor x g) (one_text r.text h.text r.rest rest same.0 same.1).0 r.refused)
  stuck (has_refused_table g e r) (Ask xs) h fits = not_asked bytes (length r.text) (r.text ++ r.rest) r.announced xs rest (asked xs h.1)
  stuck (has_ninth_table e r) (Publish t) h fits = omega (arith, r.full, fits)
  stuck (has_ninth_table e r) (Ask xs) h fits = not_asked bytes r.size r.after r.announced xs rest (asked xs h.1)

-- and no script ends there, after a table
ends_well : (n number : ℕ) (f : ScriptFault) → 0 < n → Reason n number [] f → ⊥
ends_well n number f some (is_malformed e m) = omega (arith, some, m.unfinished refl)
ends_well n number f some (has_refused_table g e r) = announced_is_some [] (length r.text) (r.text ++ r.rest) r.announced refl
ends_well n number f some (has_ninth_table e r) = announced_is_some [] r.size r.after r.announced refl

-- ---- one reason

one_table_fault : (n : ℕ) (bytes : List ℕ) (f g : TableFault) → IsTableRefusedAfter n bytes f → IsTableRefusedAfter n bytes g → f ≡ g
one_table_fault n bytes f g h k =
    let same = one_announced bytes (length h.text) (length k.text) (h.text ++ h.rest) (k.text ++ k.rest) h.announced k.announced in
    refusals.one_table_refusal k.text f g (subst (λ (x : List ℕ). IsTableRefusedFor x f) (one_text h.text k.text h.rest k.rest same.0 same.1).0 h.refused) k.refused

not_refused : (n : ℕ) (bytes : List ℕ) (f : TableFault) → IsMalformedAfter n bytes → IsTableRefusedAfter n bytes f → ⊥
not_refused n bytes f m r = m.no_table (length r.text) (r.text ++ r.rest) r.announced (λ few. omega (arith, length-append r.text r.rest))

not_ninth : (n : ℕ) (bytes : List ℕ) → IsMalformedAfter n bytes → IsNinthTable n bytes → ⊥
not_ninth n bytes m r = m.no_table r.size r.after r.announced (λ few. omega (arith, r.full, few))

one_reason : (n number : ℕ) (bytes : List ℕ) (f g : ScriptFault) → Reason n number bytes f → Reason n number bytes g → f ≡ g
one_reason n number bytes f g (is_malformed e m) (is_malformed d k) = e ∙ sym d
one_reason n number bytes f g (is_malformed e m) (has_refused_table b d k) = absurd (not_refused n bytes b m k)
one_reason n number bytes f g (is_malformed e m) (has_ninth_table d k) = absurd (not_ninth n bytes m k)
one_reason n number bytes f g (has_refused_table a e r) (is_malformed d k) = absurd (not_refused n bytes a k r)
one_reason n number bytes f g (has_refused_table a e r) (has_refused_table b d k) = e ∙ ap (of_table number) (one_table_fault n bytes a b r k) ∙ sym d
one_reason n number bytes f g (has_refused_table a e r) (has_ninth_table d k) = absurd (omega (arith, r.few, k.full))
one_reason n number bytes f g (has_ninth_table e r) (is_malformed d k) = absurd (not_ninth n bytes k r)
one_reason n number bytes f g (has_ninth_table e r) (has_refused_table b d k) = absurd (omega (arith, k.few, r.full))
one_reason n number bytes f g (has_ninth_table e r) (has_ninth_table d k) = e ∙ sym d

-- ---- scripts

-- a script is refused for its length, or for what stands first
by_length : (script : List ℕ) (f : ScriptFault) → IsScriptRefusedFor script f → ((f ≡ ScriptTooLong) × (IsShortScript script → ⊥)) ⊎ (IsShortScript script × IsFirstRefusal script f)
by_length script (Malformed line) h = inr h
by_length script (Limit what) h = inr h
by_length script ScriptTooLong h = inl (refl, h)
by_length script TooManyTables h = inr h
by_length script Memory h = absurd h

-- a piece is refused there
first_refused : (script : List ℕ) (f : ScriptFault) → (h : IsFirstRefusal script f) → IsFirstRefused CommandStep IsScriptEnd [] script (suc (length h.pieces))
first_refused script f h =
    let count : ℕ = length (published_tables h.commands) in
    let number : ℕ = suc (line_count (joined h.pieces)) in
    record {
      pieces = h.pieces;
      next = refl;
      to = h.commands;
      rest = h.rest;
      read = h.read;
      stuck = λ piece behind more cut step. stuck count number h.rest f piece behind cut (reason count number h.rest f h.refused) step.0 step.1 step.2;
      unclosed = λ over. ends_well count number f over.1 (reason count number [] f (subst (λ (x : List ℕ). IsRefusedAfter count number x f) over.0 h.refused));
    }

one_first : (script : List ℕ) (f g : ScriptFault) → IsFirstRefusal script f → IsFirstRefusal script g → f ≡ g
unfolding first_refused
one_first script f g h k =
    let even = texts.one_position CommandStep IsScriptEnd HasFewTables scripts_are_grammar [] script (suc (length h.pieces)) (suc (length k.pieces)) none_published (first_refused script f h) (first_refused script g k) in
    let n : ℕ = length (published_tables k.commands) in
    let number : ℕ = suc (line_count (joined k.pieces)) in
    let moved : IsRefusedAfter n number k.rest f =
    subst (λ (x : List ScriptCommand × List (List ℕ) × List ℕ). IsRefusedAfter (length (published_tables x.0)) (suc (line_count (joined x.1))) x.2 f) (λ i. (even.state i, even.pieces i, even.rest i)) h.refused in
    one_reason n number k.rest f g (reason n number k.rest f moved) (reason n number k.rest g k.refused)

pub one_script_refusal : OneScriptRefusal
one_script_refusal script f g h k =
    texts.one_by_length (IsShortScript script) (IsFirstRefusal script f) (IsFirstRefusal script g) ScriptTooLong f g (by_length script f h) (by_length script g k) (one_first script f g)

pub no_script_is_refused : NoScriptIsRefused
no_script_is_refused script commands f h k = elim (by_length script f k) [
  | inl long ↦ long.1 h.short
  | inr first ↦ texts.read_or_refused CommandStep IsScriptEnd HasFewTables scripts_are_grammar [] script commands [] (suc (length first.1.pieces)) none_published h.reading (first_refused script f first.1)
]

pub one_script : OneScript
one_script script cs ds h k = (texts.one_reading CommandStep IsScriptEnd HasFewTables scripts_are_grammar [] script cs ds [] [] none_published h.reading k.reading).0
