-- A part of a list that is filled from its front on.
use Rattle.std.proofs.Common.{◌≡◌, ◌≢◌, ℕ, ◌+◌, ◌-◌, ◌<◌, ◌≤◌, List, length, get_or, set, take, drop, replicate, sym, ap, ◌∙◌, arith, length-drop, length-set}
use mathlib.Core.Logic.{dite, inl, inr}
use native.Mathlib.Decide.{ℕ_discrete}
use Rattle.std.proofs.lemmas.List.{length-replicate, length-take, get_or-replicate, get_or-set_other, get_or-take, get_or-drop}
use Rattle.std.proofs.lemmas.Bool.{cases_lt}
use Rattle.std.proofs.lemmas.Grind.{get_or-set_at, same_number_lists}

-- n numbers that are to become those of a list from first on: up to one position they are, and from there on they are 0
pub record IsFilledTo (all : List ℕ) (first to n : ℕ) (part : List ℕ) : Type 0 where
  pub len : length part ≡ n
  pub filled : (k : ℕ) → k < n → first + k < to → get_or part k 0 ≡ get_or all (first + k) 0
  pub others : (k : ℕ) → k < n → to ≤ first + k → get_or part k 0 ≡ 0

module _ (all : List ℕ) (first n : ℕ) where
  pub filled_none : (part : List ℕ) → part ≡ replicate n 0 → IsFilledTo all first first n part
  filled_none part e = record {
    len = ap length e ∙ length-replicate {A = ℕ} n 0;
    filled = λ k lt before. absurd (omega arith);
    others = λ k lt behind. ap (λ l. get_or l k 0) e ∙ get_or-replicate n k 0 0 lt;
  }

  pub filled_more : (to x : ℕ) (part : List ℕ) → IsFilledTo all first to n part → first ≤ to → to < first + n → x ≡ get_or all to 0 → IsFilledTo all first (to + 1) n (set part (to - first) x)
  filled_more to x part h from lt is =
      let len = h.len in
      record {
        len = length-set part (to - first) x ∙ len;
        filled = λ k low before.
            dite (ℕ_discrete k (to - first))
            (λ (here : k ≡ to - first). get_or-set_at part (to - first) k x 0 here (omega arith) ∙ (is ∙ ap (λ i. get_or all i 0) (omega arith)))
            (λ (apart : k ≢ to - first). get_or-set_other part (to - first) k x 0 apart ∙ h.filled k low (omega arith));
        others = λ k low behind. get_or-set_other part (to - first) k x 0 (λ e. absurd (omega arith)) ∙ h.others k low (omega arith);
      }

  -- nothing of the part lies between the two positions
  pub filled_on : (to later : ℕ) (part : List ℕ) → to ≤ later → ((k : ℕ) → k < n → first + k < later → first + k < to) → IsFilledTo all first to n part → IsFilledTo all first later n part
  filled_on to later part le none h = record { len = h.len; filled = λ k low before. h.filled k low (none k low before); others = λ k low behind. h.others k low (omega arith) }

  pub filled_all : (to : ℕ) (part : List ℕ) → first + n ≤ length all → ((at : ℕ) → to ≤ at → at < first + n → get_or all at 0 ≡ 0) → IsFilledTo all first to n part → part ≡ take n (drop first all)
  filled_all to part within zeros h =
      same_number_lists part (take n (drop first all)) (omega (arith, length-take n (drop first all), length-drop first all)) (λ k lt.
      each k (omega arith) ∙ sym (get_or-take n (drop first all) k 0 (omega arith) ∙ get_or-drop first all k 0))
    where
      each : (k : ℕ) → k < n → get_or part k 0 ≡ get_or all (first + k) 0
      each k low = elim (cases_lt (first + k) to) [ inl before ↦ h.filled k low before | inr behind ↦ h.others k low behind ∙ sym (zeros (first + k) behind (omega arith)) ]
