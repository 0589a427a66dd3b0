-- Terms that are listed, added to the boxes of a cell.
use Rattle.std.proofs.Common.{◌≡◌, ℕ, ◌+◌, ◌-◌, ◌<◌, ◌≤◌, List, All, Option, None, take, drop, length, get_or, refl, sym, ap, subst, ◌∙◌, arith}
use Rattle.std.specs.Global.{Vec}
use Rattle.std.proofs.lemmas.List.{length-take-le, length-drop, get_or-take, get_or-drop, get_or_default}
use Rattle.grid_quantiser.specs.declared.boxes.CellBox.{CellBox}
use Rattle.plant_record.specs.Description.{Description, vectors_of}
use Rattle.plant_record.specs.Limits.{IsWithinLimits}
use Rattle.plant_record.proofs.lemmas.SoundPlants.{sound as sound_plant}
use Rattle.pair_boxes.specs.declared.terms.Terms.{Terms}
use Rattle.pair_boxes.specs.declared.terms.Terms.TheVariants.{Listed}
use Rattle.pair_boxes.specs.declared.terms.TermTable.{TermTable}
use Rattle.pair_box.specs.Sums.{plus}
use Rattle.pair_boxes.specs.inside.Terms.{count_of, HasTermAt, IsTermAt, Brings, IsSumAlong, AreSumsAlong, IsTermTableOf}
use Rattle.pair_boxes.proofs.BoxSums.{Fits28, sums_fit, term_fits, rest_more}
use Rattle.plant_record.proofs.lemmas.InputVectors.{some_vectors}
use Rattle.pair_boxes.proofs.TermTables.{has_term, slot_within}

-- The terms of a state are listed.
pub record FindsTerms (p : Description) (i : ℕ) (t : TermTable) (terms : List (Option CellBox)) : Type 0 where
  pub limits : IsWithinLimits p
  pub state : i < length p.equations
  pub held : IsTermTableOf p i t
  pub listed : Vec (Option CellBox)
  pub is : t.terms ≡ Listed listed
  pub terms_are : terms ≡ listed.items

module _ {p : Description} {i : ℕ} {t : TermTable} {terms : List (Option CellBox)} (f : FindsTerms p i t terms) (first own : ℕ) where
  count_is : count_of t.terms ≡ length terms
  count_is = ap count_of f.is ∙ sym (ap length f.terms_are)

  term_is : (c u n : ℕ) → HasTermAt p c u i t.terms n → IsTermAt p c u i (get_or terms n None)
  term_is c u n has = subst (λ (xs : List (Option CellBox)). IsTermAt p c u i (get_or xs n None)) (sym f.terms_are) (subst (λ (all : Terms). HasTermAt p c u i all n) f.is has)

  -- the terms that the cell and an input find
  abbrev pub found : List (Option CellBox)
  found = take (length terms - first) (drop first terms)

  module _ (c : ℕ) (brought : Brings p i t first own c) where
    within : (u : ℕ) → u < vectors_of p.inputs → first + get_or t.inputs.items u 0 < length terms
    within u input = omega (arith, count_is, slot_within p (sound_plant p f.limits.plant) i f.state t f.held first own u (first + get_or t.inputs.items u 0) refl c brought input)

    pub first_within : first ≤ length terms
    first_within = omega (arith, within 0 (some_vectors p.inputs f.limits.plant.inputs))

    found_long : length found ≡ length terms - first
    found_long = let le : length terms - first ≤ length (drop first terms) = omega (arith, length-drop first terms) in length-take-le (length terms - first) (drop first terms) le

    pub inputs_within : All (λ (n : ℕ). n < length found) t.inputs.items
    inputs_within k d short = omega (arith, get_or_default t.inputs.items k d 0 short, within k (omega (arith, short, f.held.inputs)), found_long)

    term_found : (u : ℕ) → u < vectors_of p.inputs → IsTermAt p c u i (get_or found (get_or t.inputs.items u 0) None)
    term_found u input =
        let n : ℕ = get_or t.inputs.items u 0 in
        let read : get_or found n None ≡ get_or terms (first + n) None = get_or-take (length terms - first) (drop first terms) n None (omega (arith, within u input)) ∙ get_or-drop first terms n None in
        subst (IsTermAt p c u i) (sym read) (term_is c u (first + n) (has_term p (sound_plant p f.limits.plant) i f.state t f.held first own u (first + n) refl c u brought input refl))

    pub terms_fit : All (λ (n : ℕ). Fits28 (get_or found n None)) t.inputs.items
    terms_fit k d short =
        let input : k < vectors_of p.inputs = omega (arith, short, f.held.inputs) in
        subst (λ (n : ℕ). Fits28 (get_or found n None)) (get_or_default t.inputs.items k 0 d short)
        (term_fits p f.limits i f.state c k (get_or found (get_or t.inputs.items k 0) None) (term_found k input))

    module _ (base : Option CellBox) (boxes : List (Option CellBox)) (long : length boxes ≡ vectors_of p.inputs) (before : AreSumsAlong p i c base boxes) where
      pub boxes_fit : All Fits28 boxes
      boxes_fit k d short =
          subst Fits28 (get_or_default boxes k None d short)
          (sums_fit p f.limits i c k base (get_or boxes k None) (omega (arith, f.state)) (before k (omega (arith, short, long)))).1

      pub listed_added : (after : List (Option CellBox)) → ((u : ℕ) → u < length boxes → get_or after u None ≡ plus (get_or boxes u None) (get_or found (get_or t.inputs.items u 0) None)) → AreSumsAlong p (i + 1) c base after
      listed_added after each u input =
          subst (IsSumAlong p (i + 1) c u base) (sym (each u (omega (arith, input, long))))
          (rest_more p f.limits i f.state c u (get_or found (get_or t.inputs.items u 0) None) (term_found u input) base (get_or boxes u None) (before u input))
