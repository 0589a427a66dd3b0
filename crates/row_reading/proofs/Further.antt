-- Reading that goes on, and what is refused further on.
use Rattle.std.proofs.Common.{◌≡◌, ℕ, ◌+◌, List, [], ◌++◌, length, length-append, refl, sym, ap, ◌∙◌, append_assoc, arith}
use Rattle.std.specs.List.{concat}
use Rattle.std.proofs.lemmas.List.Folds.{concat-append}
use Rattle.text_pieces.specs.Steps.{Leads, IsRead, IsStuck, IsFirstRefused}
use Rattle.text_pieces.proofs.Laws.{joined_bytes, both_ways}
use Rattle.row_reading.specs.declared.row_fault.RowFault.{RowFault}
use Rattle.row_reading.specs.declared.row_fault.RowFault.TheVariants.{Malformed, Memory}
use Rattle.row_reading.specs.TurnSteps.{IsRefusedAt, fault_after}

-- more lines at the front
pub lines_on : (lines more : List (List ℕ)) (text rest after : List ℕ) → text ≡ concat lines ++ rest → rest ≡ concat more ++ after → text ≡ concat (lines ++ more) ++ after
lines_on lines more text rest after are on =
    are ∙ ap (λ (x : List ℕ). concat lines ++ x) on ∙ sym (append_assoc (concat lines) (concat more) after) ∙ ap (λ (x : List ℕ). x ++ after) (sym (concat-append lines more))

module _ {S : Type 0} (Step : S → List ℕ → S → Type 0) where
  pub is_read : (q r : S) (text rest : List ℕ) (lines : List (List ℕ)) → Leads Step q lines r → text ≡ concat lines ++ rest → IsRead Step q text lines r rest
  is_read q r text rest lines leads are = record { leads = leads; are = are ∙ ap (λ (x : List ℕ). x ++ rest) (joined_bytes lines) }

  pub reads_on : (q m r : S) (text rest after : List ℕ) (lines more : List (List ℕ)) → IsRead Step q text lines m rest → IsRead Step m rest more r after → IsRead Step q text (lines ++ more) r after
  reads_on q m r text rest after lines more read on =
      is_read q r text after (lines ++ more) (both_ways Step q m r lines more read.leads on.leads)
      (lines_on lines more text rest after (read.are ∙ ap (λ (x : List ℕ). x ++ rest) (sym (joined_bytes lines))) (on.are ∙ ap (λ (x : List ℕ). x ++ after) (sym (joined_bytes more))))

  module _ (Closed : S → List ℕ → Type 0) where
    pub refused_here : (q : S) (rest : List ℕ) → IsStuck Step q rest → (Closed q rest → ⊥) → IsFirstRefused Step Closed q rest 1
    refused_here q rest stuck unclosed = record { pieces = []; next = refl; to = q; rest = rest; read = record { leads = refl; are = refl }; stuck = stuck; unclosed = unclosed }

    pub refused_on : (q m : S) (text rest : List ℕ) (lines : List (List ℕ)) (count n : ℕ) → IsRead Step q text lines m rest → length lines ≡ count → IsFirstRefused Step Closed m rest n → IsFirstRefused Step Closed q text (count + n)
    refused_on q m text rest lines count n read counted r = record {
      pieces = lines ++ r.pieces;
      next = omega (arith, counted, r.next, length-append lines r.pieces);
      to = r.to;
      rest = r.rest;
      read = reads_on q m r.to text rest r.rest lines r.pieces read r.read;
      stuck = r.stuck;
      unclosed = r.unclosed;
    }

pub fault_on : (IsRefused Also : ℕ → Type 0) (lines : ℕ) → ((n : ℕ) → IsRefused n → Also (lines + n)) → (fault : RowFault) → IsRefusedAt IsRefused fault → IsRefusedAt Also (fault_after lines fault)
fault_on IsRefused Also lines on (Malformed n) refused = on n refused
fault_on IsRefused Also lines on Memory refused = tt
