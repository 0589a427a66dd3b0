-- Lines, each with its line feed at its end.
use Rattle.std.proofs.Common.{◌≡◌, ℕ, Bool, true, eqb, not, List, [], ◌∷◌, ◌++◌, refl, sym, ap, ◌∙◌, append_assoc}
use Rattle.std.specs.Prelude.{codes}
use Rattle.std.specs.List.{list_all}
use Rattle.row_runs.proofs.Cuts.{one_cut}

abbrev pub no_feed : ℕ → Bool
no_feed b = not (eqb b 10)

-- Bytes with one line feed, their last.
pub record IsLine (line : List ℕ) : Type 0 where
  pub front : List ℕ
  pub no_other : list_all no_feed front ≡ true
  pub are : line ≡ front ++ codes "\n"

-- Two lines, and what stands after them.
pub record AreSame (k l s t : List ℕ) : Type 0 where
  pub line : k ≡ l
  pub rest : s ≡ t

pub one_line : (k l s t : List ℕ) → IsLine k → IsLine l → k ++ s ≡ l ++ t → AreSame k l s t
one_line k l s t a b e =
    let first : k ++ s ≡ a.front ++ 10 ∷ s = ap (λ (x : List ℕ). x ++ s) a.are ∙ append_assoc a.front (10 ∷ []) s in
    let second : l ++ t ≡ b.front ++ 10 ∷ t = ap (λ (x : List ℕ). x ++ t) b.are ∙ append_assoc b.front (10 ∷ []) t in
    let same = one_cut no_feed a.front b.front 10 10 s t a.no_other b.no_other refl refl (sym first ∙ e ∙ second) in
    record { line = a.are ∙ ap (λ (x : List ℕ). x ++ 10 ∷ []) same.front ∙ sym b.are; rest = same.rest }
