-- No bytes are neither a script nor refused as one.
use Rattle.std.proofs.Common.{◌≡◌, ℕ, suc, ◌<◌, ◌≤◌, List, [], ◌∷◌, ◌++◌, length, take, drop, inl, inr, refl, sym, ap, subst, ◌∙◌, arith, append_assoc, length-take, take-append-drop}
use Rattle.std.proofs.lemmas.Bool.{cases_lt}
use Rattle.controller_table.proofs.OneRefusal.{no_table_is_neither}
use Rattle.text_pieces.specs.Steps.{joined, IsReading, IsFirstRefused}
use Rattle.text_pieces.proofs.Laws.{met, undeniable}
use Rattle.row_reading.specs.Counting.{line_count}
use Rattle.live_script.specs.declared.command.ScriptCommand.{ScriptCommand}
use Rattle.live_script.specs.declared.command.ScriptCommand.TheVariants.{Publish, Ask}
use Rattle.live_script.specs.declared.script_fault.ScriptFault.{ScriptFault}
use Rattle.live_script.specs.declared.script_fault.ScriptFault.TheVariants.{Malformed, Limit, ScriptTooLong, TooManyTables, Memory}
use Rattle.live_script.specs.Scripts.{publish_line, ask_line, Spell, FitsAfter, published_tables, CommandStep, IsScriptEnd, IsShortScript}
use Rattle.live_script.specs.ScriptRefusals.{Announce, IsMalformedAfter, IsRefusedAfter, IsFirstRefusal, IsScriptRefusedFor}
use Rattle.live_script.specs.Laws.{NoScriptIsNeither}
use Rattle.live_script.specs.inside.Faults.{of_table}
use Rattle.live_script.proofs.TableLines.{ends_too_early, refused_after}
use Rattle.live_script.proofs.ScriptGrammar.{HasFewTables, none_published, scripts_are_grammar}

-- ---- what stands first: where none of these does, nothing is denied

module _ (n number : ℕ) (most : n ≤ 8) (bytes : List ℕ) (unended : bytes ≡ [] → 0 < n → ⊥) (no_command : (c : ScriptCommand) (first rest : List ℕ) → bytes ≡ first ++ rest → Spell first c → FitsAfter n c → ⊥)
    (unrefused : (f : ScriptFault) → IsRefusedAfter n number bytes f → ⊥) where
  -- a table's text of the size that its line says
  whole_text : (text rest : List ℕ) → n < 8 → Announce bytes (length text) (text ++ rest) → ⊥
  whole_text text rest few told =
      no_table_is_neither text
      (λ p rows table. no_command (Publish (record { version = table.0; plant = p; rows = rows })) (publish_line (length text) ++ text) rest
      (told.are ∙ sym (append_assoc (publish_line (length text)) text rest)) (record { text = text; is_table = table.1; are = refl }) few)
      (λ f refused. unrefused (of_table number f) (refused_after n number bytes f (record { few = few; text = text; rest = rest; announced = told; refused = refused })))

  cut_text : (after : List ℕ) (size : ℕ) → n < 8 → size ≤ length after → Announce bytes size after → ⊥
  cut_text after size few enough told =
      let long : length (take size after) ≡ size = omega (arith, length-take size after, enough) in
      whole_text (take size after) (drop size after) few (record {
        some = omega (arith, told.some, long);
        most = omega (arith, told.most, long);
        are = told.are ∙ ap (λ (k : ℕ). publish_line k ++ after) (sym long) ∙ ap (λ (x : List ℕ). publish_line (length (take size after)) ++ x) (sym (take-append-drop size after));
      })

  announced : (after : List ℕ) (size : ℕ) → Announce bytes size after → ⊥
  announced after size told = elim (cases_lt n 8) [
    | inl few ↦ elim (cases_lt (length after) size) [
      | inl short ↦ unrefused (Malformed number) (inl (refl, subst (λ (x : List ℕ). IsMalformedAfter n x) (sym told.are) (ends_too_early n size after few told.some told.most short)))
      | inr enough ↦ cut_text after size few (omega (arith, enough)) told
    ]
    | inr full ↦ unrefused TooManyTables (record { full = omega (arith, full, most); size = size; after = after; announced = told })
  ]

  some_front : ⊥
  some_front = unrefused (Malformed number) (inl (
    refl,
    record {
      unfinished = λ none. elim (cases_lt 0 n) [
        | inl some ↦ absurd (unended none some)
        | inr zero_tables ↦ omega (arith, zero_tables)
      ];
      no_table = λ size after told _. announced after size told;
      no_question = λ numbers after some question at. no_command (Ask numbers) (ask_line numbers) after at (question, refl) some;
    },
  ))

-- ---- a script

first_refusal : (bytes : List ℕ) (f : ScriptFault) → IsShortScript bytes → IsFirstRefusal bytes f → IsScriptRefusedFor bytes f
first_refusal bytes (Malformed line) short h = (short, h)
first_refusal bytes (Limit what) short h = (short, h)
first_refusal bytes ScriptTooLong short h = absurd h.refused
first_refusal bytes TooManyTables short h = (short, h)
first_refusal bytes Memory short h = absurd h.refused

refused_end : (bytes : List ℕ) (n : ℕ) → IsShortScript bytes → IsFirstRefused CommandStep IsScriptEnd [] bytes n → ((f : ScriptFault) → IsScriptRefusedFor bytes f → ⊥) → ⊥
refused_end bytes n short r no_refusal =
    let few = met CommandStep IsScriptEnd HasFewTables scripts_are_grammar [] r.pieces r.to none_published (r.read).leads in
    some_front (length (published_tables r.to)) (suc (line_count (joined r.pieces))) few r.rest (λ none some. r.unclosed (none, some)) (λ c first rest at spells fits. r.stuck first rest (r.to ++ c ∷ []) at (c, spells, fits, refl))
    (λ f refused. no_refusal f (first_refusal bytes f short (record { pieces = r.pieces; commands = r.to; rest = r.rest; read = r.read; refused = refused })))

pub no_script_is_neither : NoScriptIsNeither
no_script_is_neither bytes no_script no_refusal =
    elim (cases_lt 67108864 (length bytes)) [
      | inl long ↦ no_refusal ScriptTooLong (λ short. omega (arith, long, short))
      | inr le ↦ (
          let short : IsShortScript bytes = omega (arith, le) in
          undeniable CommandStep IsScriptEnd HasFewTables scripts_are_grammar [] bytes none_published
          (λ commands rest reading. no_script commands (record { short = short; reading = subst (λ (x : List ℕ). IsReading CommandStep IsScriptEnd [] bytes commands x) reading.closed.0 reading }))
          (λ n refused. refused_end bytes n short refused no_refusal))
    ]
