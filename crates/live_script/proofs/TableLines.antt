-- The lines before the texts of tables.
use Rattle.std.proofs.Common.{◌≡◌, ℕ, ◌<◌, ◌≤◌, List, [], ◌∷◌, ◌++◌, length, drop, get_or, refl, ap, sym, ◌∙◌, arith, append_assoc, inr}
use Rattle.std.specs.Prelude.{ℤ, pos, codes}
use Rattle.std.specs.Fmt.{decimal, signed_decimal}
use Rattle.controller_table.specs.declared.table_fault.TableFault.{TableFault}
use Rattle.controller_table.specs.declared.table_fault.TableFault.TheVariants as tables
use Rattle.controller_table.specs.TableRefusals.{IsTableRefusedFor}
use Rattle.row_reading.proofs.Digits.{one_number}
use Rattle.live_script.specs.declared.script_fault.ScriptFault.TheVariants.{Memory}
use Rattle.live_script.specs.Scripts.{publish_line, ask_line}
use Rattle.live_script.specs.ScriptRefusals.{Announce, IsMalformedAfter, IsTableRefusedAfter, IsRefusedAfter}
use Rattle.live_script.specs.inside.Faults.{of_table}
use Rattle.live_script.specs.inside.QuestionWords.{BeginsWithSeparator, IsNumberAt, spaced}
use Rattle.live_script.proofs.WordsCut.{one_number_at}
use Rattle.live_script.proofs.QuestionLines.{line_opened}

-- the line that says a size, and what stands after it
pub size_opened : (size : ℕ) (after : List ℕ) → publish_line size ++ after ≡ codes "publish " ++ (decimal size ++ 10 ∷ after)
size_opened size after = ap (λ (x : List ℕ). codes "publish " ++ x) (append_assoc (decimal size) (10 ∷ []) after)

after_publish : (v w : List ℕ) → codes "publish " ++ v ≡ codes "publish " ++ w → v ≡ w
after_publish v w e = ap (drop 8) e

-- one size is said
pub one_announced : (bytes : List ℕ) (m n : ℕ) (rest other : List ℕ) → Announce bytes m rest → Announce bytes n other → (m ≡ n) × (rest ≡ other)
one_announced bytes m n rest other h k =
    one_number m n 10 rest other (omega (arith, h.most)) (omega (arith, k.most)) refl
    (after_publish _ _ (sym (size_opened m rest) ∙ sym h.are ∙ k.are ∙ size_opened n other))

-- a line that says a size is no question's, and neither is missing
pub not_asked : (bytes : List ℕ) (size : ℕ) (after : List ℕ) → Announce bytes size after → (numbers : List ℤ) (rest : List ℕ) → bytes ≡ ask_line numbers ++ rest → ⊥
not_asked bytes size after h numbers rest asked =
    apart (decimal size ++ 10 ∷ after) (spaced numbers ++ 10 ∷ rest) (sym (size_opened size after) ∙ sym h.are ∙ asked ∙ line_opened numbers rest)
  where
    apart : (v w : List ℕ) → codes "publish " ++ v ≡ codes "ask" ++ w → ⊥
    apart v w e = omega (arith, ap (λ (x : List ℕ). get_or x 0 0) e)

pub announced_is_some : (bytes : List ℕ) (size : ℕ) (after : List ℕ) → Announce bytes size after → bytes ≡ [] → ⊥
announced_is_some bytes size after h none = apart (decimal size ++ 10 ∷ after) (sym (size_opened size after) ∙ sym h.are ∙ none)
  where
    apart : (v : List ℕ) → codes "publish " ++ v ≡ [] → ⊥
    apart v e = omega (arith, ap (λ (x : List ℕ). get_or x 0 0) e)

-- ---- a size that is read

begins_with_feed : (after : List ℕ) → BeginsWithSeparator (10 ∷ after)
begins_with_feed after = record { separator = 10; after = after; are = refl; separates = refl }

-- the number of an announced size stands after the first word
pub announced_number : (bytes number : List ℕ) (size : ℕ) (after : List ℕ) → bytes ≡ codes "publish " ++ number → Announce bytes size after → IsNumberAt number (pos size, 10 ∷ after)
announced_number bytes number size after at h = (
  omega (arith, h.most),
  begins_with_feed after,
  after_publish number (decimal size ++ 10 ∷ after) (sym at ∙ h.are ∙ size_opened size after),
)

-- and the other way round
pub announced : (bytes number rest after : List ℕ) (size : ℕ) → 1 ≤ size → size ≤ 67108864 → bytes ≡ codes "publish " ++ number → number ≡ signed_decimal (pos size) ++ rest → rest ≡ 10 ∷ after → Announce bytes size after
announced bytes number rest after size some most at is feed = record {
  some = some;
  most = most;
  are = at ∙ ap (λ (x : List ℕ). codes "publish " ++ x) (is ∙ ap (λ (x : List ℕ). decimal size ++ x) feed) ∙ sym (size_opened size after);
}

-- the number that is read is the announced size, and ends its line
pub size_read : (bytes number rest : List ℕ) (z : ℤ) (size : ℕ) (after : List ℕ) → bytes ≡ codes "publish " ++ number → IsNumberAt number (z, rest) → Announce bytes size after → (z ≡ pos size) × (rest ≡ 10 ∷ after)
size_read bytes number rest z size after at found h =
    let told = announced_number bytes number size after at h in
    one_number_at z (pos size) rest (10 ∷ after) found.0 told.0 found.1 told.1 (sym found.2 ∙ told.2)

-- a table's text that ends too early
pub ends_too_early : (count size : ℕ) (bytes : List ℕ) → count < 8 → 1 ≤ size → size ≤ 67108864 → length bytes < size → IsMalformedAfter count (publish_line size ++ bytes)
ends_too_early count size bytes few some most short = record {
  unfinished = λ none. absurd (announced_is_some (publish_line size ++ bytes) size bytes told none);
  no_table = λ other after h fits.
      let same = one_announced (publish_line size ++ bytes) other size after bytes h told in
      let long = fits few in
      omega (arith, same.0, ap length same.1, long, short);
  no_question = λ numbers rest _ _ asked. not_asked (publish_line size ++ bytes) size bytes told numbers rest asked;
}
  where
    told : Announce (publish_line size ++ bytes) size bytes
    told = record { some = some; most = most; are = refl }

-- ---- a text that is refused

pub refused_after : (count number : ℕ) (bytes : List ℕ) (f : TableFault) → IsTableRefusedAfter count bytes f → IsRefusedAfter count number bytes (of_table number f)
refused_after count number bytes (tables.Malformed line) r = inr (line, refl, r)
refused_after count number bytes (tables.Limit what) r = r
refused_after count number bytes tables.Memory r = absurd r.refused.1

-- the fault of a table's text is the script's, after so many lines
pub table_refused : (count number size : ℕ) (bytes text rest : List ℕ) (fault : TableFault) → count < 8 → 1 ≤ size → size ≤ 67108864 → length text ≡ size → bytes ≡ text ++ rest
    → ((fault ≡ tables.Memory → ⊥) → IsTableRefusedFor text fault) → (of_table number fault ≡ Memory → ⊥) → IsRefusedAfter count number (publish_line size ++ bytes) (of_table number fault)
table_refused count number size bytes text rest fault few some most long cut refused other =
    refused_after count number (publish_line size ++ bytes) fault (record { few = few; text = text; rest = rest; announced = told; refused = refused (λ e. other (ap (of_table number) e)) })
  where
    told : Announce (publish_line size ++ bytes) (length text) (text ++ rest)
    told = record {
      some = omega (arith, some, long);
      most = omega (arith, most, long);
      are = ap (λ (n : ℕ). publish_line n ++ bytes) (sym long) ∙ ap (λ (x : List ℕ). publish_line (length text) ++ x) cut;
    }
