-- Tables of the terms of all boxes.
use Rattle.std.proofs.Common.{◌≡◌, ℕ, ◌+◌, ◌/◌, ◌^◌, ◌<◌, ◌≤◌, ◌-◌, List, [], ◌∷◌, ◌++◌, All, length, drop, get_or, Bool, refl, sym, ap, ap₂, subst, ◌∙◌, arith, inl, inr}
use Rattle.std.specs.Prelude.{if◌then◌else◌, IsTrue}
use Rattle.std.proofs.Math.Nat.{mod-le, div-le_self}
use Rattle.std.proofs.lemmas.Bool.{cases_lt, cond_both}
use Rattle.std.proofs.lemmas.List.{length-map, get_or_append_left, get_or-append_right}
use Rattle.std.proofs.lemmas.List.Elements.{All-get_or, All-weaker}
use Rattle.grid_quantiser.specs.Axes.{no_axis, cells_of}
use Rattle.grid_quantiser.specs.Indices.{index_along}
use Rattle.grid_quantiser.proofs.OwnIndices.{index_along_is, index_along_below}
use Rattle.plant_record.specs.Description.{Description, axis_of, axes_of, vectors_of}
use Rattle.plant_record.specs.Plants.{IsPlant}
use Rattle.plant_record.specs.Soundness.{IsSound}
use Rattle.successor_box.specs.PairExtents.{shifts_along, shifted_by}
use Rattle.successor_box.proofs.Middles.{axis_at}
use Rattle.pair_boxes.specs.declared.digits.Digit.{Digit}
use Rattle.pair_boxes.specs.declared.terms.StateTerms.{StateTerms}
use Rattle.pair_boxes.specs.declared.terms.TermTable.{TermTable}
use Rattle.pair_boxes.specs.inside.ExtentTables.{first_of}
use Rattle.pair_boxes.specs.inside.Terms.{AreIndicesOf, first_in, count_of, HasTermAt, Brings, IsTermTableOf, AreTermsOf}
use Rattle.pair_boxes.proofs.PackedDigits.{slot_is}
use Rattle.plant_record.proofs.lemmas.InputVectors.{some_vectors}
use Rattle.successor_box.proofs.LineValues.{state_slot}

-- a digit is that of a state or an input variable
abbrev pub HasVariable : Description → Digit → Type 0
HasVariable p d = d.variable < length p.states + length p.inputs

-- the terms of one state more
pub tables_more : (p : Description) (tables : List StateTerms) (n : ℕ) (t : StateTerms) → length tables ≡ n → ((i : ℕ) (d : StateTerms) → i < n → AreTermsOf p i (get_or tables i d)) → AreTermsOf p n t → (i : ℕ) (d : StateTerms) → i < n + 1 → AreTermsOf p i (get_or (tables ++ t ∷ []) i d)
tables_more p tables n t long each here i d lt =
    elim (cases_lt i n) [
      | inl before ↦ subst (AreTermsOf p i) (sym (get_or_append_left tables (t ∷ []) d i (omega (arith, before, long)))) (each i d before)
      | inr past ↦
          let last : i ≡ n = omega (arith, lt, past) in
          let slot : i - n ≡ 0 = omega (arith, last) in
          let found : get_or (tables ++ t ∷ []) i d ≡ t = get_or-append_right tables (t ∷ []) n i d long (omega (arith, last)) ∙ ap (λ (k : ℕ). get_or (t ∷ []) k d) slot in
          subst (AreTermsOf p i) (sym found) (subst (λ (k : ℕ). AreTermsOf p k t) (sym last) here)
    ]

-- a cell shifts an extent along by less than the axis is long
pub shifted_below : (p : Description) → IsSound p → (i c : ℕ) → i < length p.equations → shifted_by p i c < (get_or (axes_of p) i no_axis).count
shifted_below p sound i c lt =
    let count : ℕ = (get_or (axes_of p) i no_axis).count in
    let within : i < length (axes_of p) = omega (arith, lt, sound.one_each, length-map p.states axis_of) in
    let some : 0 < count = (axis_at p sound i (omega (arith, lt, sound.one_each))).some_cell in
    cond_both (shifts_along p i) (index_along (axes_of p) i c) 0 (λ (n : ℕ). n < count) (λ shifts. index_along_below (axes_of p) i c sound.axes.each within) (λ fixed. some)

-- what the indices of a cell bring is what the cell brings
pub first_is : (p : Description) (t : TermTable) (c : ℕ) (indices : List ℕ) → All (HasVariable p) t.digits.items → AreIndicesOf p c indices → first_in t indices ≡ first_of p t.digits.items c
first_is p t c indices each are = slot_is p c 0 indices t.digits.items each are

-- a cell's indices bring to each table what the cell does
pub brings : (p : Description) → IsSound p → (i : ℕ) (t : TermTable) (c first own : ℕ) (indices : List ℕ) → i < length p.equations → IsTermTableOf p i t → c < cells_of (axes_of p) → AreIndicesOf p c indices →
    first ≡ first_in t indices → own ≡ (if t.shifts then get_or indices i 0 else 0) → Brings p i t first own c
brings p sound i t c first own indices lt held cell are first_by own_by =
    let state : i < length p.states = omega (arith, lt, sound.one_each) in
    let here : get_or indices i 0 ≡ index_along (axes_of p) i c = are i (omega (arith, state)) ∙ sym (state_slot p c 0 i state) in
    record {
      cell = cell;
      first = first_by ∙ first_is p t c indices held.digits are;
      shifts = own_by ∙ ap₂ (λ (b : Bool) (n : ℕ). if b then n else 0) held.shifts here;
    }

-- the variables are among the nine
pub variables_few : (p : Description) → IsPlant p → (ds : List Digit) → All (HasVariable p) ds → All (λ (d : Digit). d.variable < 9) ds
variables_few p plant ds each = All-weaker (HasVariable p) (λ (d : Digit). d.variable < 9) (λ d h. omega (arith, h, plant.states_bound, plant.inputs_bound)) ds each

-- what a cell brings is among the terms, and it shifts the extents by no more than it is
pub first_fits : (p : Description) → IsPlant p → (i : ℕ) (t : TermTable) (first own c : ℕ) → IsTermTableOf p i t → Brings p i t first own c → first < 2 ^ 32
first_fits p plant i t first own c held brought = omega (arith, brought.first, held.slot c 0 brought.cell (some_vectors p.inputs plant.inputs), held.few)

pub own_few : (p : Description) (i : ℕ) (t : TermTable) (first own c : ℕ) → Brings p i t first own c → own ≤ c
own_few p i t first own c brought =
    let later : ℕ = cells_of (drop (i + 1) (axes_of p)) in
    let along : index_along (axes_of p) i c ≤ c = omega (arith, index_along_is (axes_of p) i c, mod-le (c / later) (get_or (axes_of p) i no_axis).count, div-le_self c later) in
    subst (λ (n : ℕ). n ≤ c) (sym brought.shifts) (cond_both (shifts_along p i) (index_along (axes_of p) i c) 0 (λ (n : ℕ). n ≤ c) (λ shifts. along) (λ fixed. omega arith))

-- in a free table each input brings nothing
pub none_brought : (p : Description) (i : ℕ) (t : TermTable) (u : ℕ) → IsTermTableOf p i t → IsTrue t.free → u < vectors_of p.inputs → get_or t.inputs.items u 0 ≡ 0
none_brought p i t u held free input = All-get_or (λ (n : ℕ). n ≡ 0) t.inputs.items u 0 (omega (arith, input, held.inputs)) (held.free free)

-- a cell's term stands at the slot that it and the input bring
module _ (p : Description) (sound : IsSound p) (i : ℕ) (lt : i < length p.equations) (t : TermTable) (held : IsTermTableOf p i t) (first own input slot : ℕ) (slot_is : slot ≡ first + get_or t.inputs.items input 0) where
  same_slot : (c u : ℕ) → Brings p i t first own c → get_or t.inputs.items u 0 ≡ get_or t.inputs.items input 0 → first_of p t.digits.items c + get_or t.inputs.items u 0 ≡ slot
  same_slot c u brought same = omega (arith, slot_is, brought.first, same)

  pub has_term : (c u : ℕ) → Brings p i t first own c → u < vectors_of p.inputs → get_or t.inputs.items u 0 ≡ get_or t.inputs.items input 0 → HasTermAt p c u i t.terms slot
  has_term c u brought below same = subst (HasTermAt p c u i t.terms) (same_slot c u brought same) (held.term c u brought.cell below)

  pub slot_within : (c : ℕ) → Brings p i t first own c → input < vectors_of p.inputs → slot < count_of t.terms
  slot_within c brought below = subst (λ (n : ℕ). n < count_of t.terms) (same_slot c input brought refl) (held.slot c input brought.cell below)

  pub own_below : (c : ℕ) → Brings p i t first own c → own < (get_or (axes_of p) i no_axis).count
  own_below c brought = omega (arith, brought.shifts, shifted_below p sound i c lt)
