-- The digits of an equation, one by one, and what they say of pairs.
use Rattle.std.proofs.Common.{◌≡◌, ◌⊎◌, ℕ, ◌+◌, ◌-◌, ◌*◌, ◌<◌, ◌≤◌, true, false, not, ◌&&◌, eqb, List, [], All, Option, drop, length, refl, sym, ap, subst, subst₂, ◌∙◌, arith, inl, inr}
use Rattle.std.specs.Prelude.{IsTrue, IsFalse}
use Rattle.std.proofs.lemmas.Bool.{cases_lt, cases_Bool, cond_both, both_ways, and_right, and_from, eq-eqb}
use Rattle.std.proofs.lemmas.Nat.{mul-le}
use Rattle.std.proofs.lemmas.List.Elements.{All-nil, All-push, All-weaker}
use Rattle.fixed_expr.specs.Mentions.{mentions}
use Rattle.mixed_radix.specs.Radix.{size}
use Rattle.mixed_radix.proofs.Steps.{some_rest}
use Rattle.grid_quantiser.specs.declared.extents.Extent.{Extent}
use Rattle.grid_quantiser.specs.Axes.{counts_of}
use Rattle.grid_quantiser.specs.Indices.{index_along}
use Rattle.plant_record.specs.Description.{Description, axes_of, value_counts}
use Rattle.plant_record.specs.ValueIndices.{value_count}
use Rattle.plant_record.specs.Plants.{IsPlant}
use Rattle.plant_record.specs.Soundness.{IsSound}
use Rattle.plant_record.specs.Steps.{equation_at}
use Rattle.successor_box.specs.PairExtents.{index_in, shifts_along, shifted_by, depends_on, IsExtentBeforeAt}
use Rattle.successor_box.proofs.AlikePairs.{alike_extent}
use Rattle.pair_box.specs.PlantBoxes.{pairs_of_plant}
use Rattle.pair_boxes.specs.declared.digits.Digit.{Digit}
use Rattle.pair_boxes.specs.declared.digits.Digits.{Digits}
use Rattle.pair_boxes.specs.inside.Digits.{count_in, slot_at, index_at, IsReadable, IsDigitOf, HasDigit, ArePacked, AreDigitsOf, IsWithDigit, IsAsBefore}
use Rattle.pair_boxes.specs.inside.ExtentTables.{IsExtentFor}
use Rattle.pair_boxes.proofs.PackedDigits.{IsBelow, turns, all_found, index_found, packed_more, has_kept, has_added, some_strides, index_below, no_index}
use Rattle.plant_record.proofs.lemmas.InputVectors.{some_vectors}
use Rattle.pair_boxes.proofs.PairDigits.{HasIndices, count_among, some_count_in, index_in_below, pair_with, pair_indices, next_along, next_among}
use Rattle.pair_boxes.proofs.RelativeExtents.{extended_at}

-- The digits among the variables from `first` to before `last`.
pub record AreDigitsBetween (p : Description) (i first last : ℕ) (digits : Digits) : Type 0 where
  pub each : All (IsDigitOf p i) digits.each.items
  pub all : (k : ℕ) → first ≤ k → k < last → IsTrue (depends_on p i k) → HasDigit digits.each.items k
  pub packed : ArePacked 1 digits.each.items digits.slots

pub none_between : (p : Description) (i last : ℕ) (digits : Digits) → digits.each.items ≡ [] → digits.slots ≡ 1 → AreDigitsBetween p i last last digits
none_between p i last digits none one = record {
  each = subst (All (IsDigitOf p i)) (sym none) (All-nil (IsDigitOf p i));
  all = λ k past within. absurd (omega (arith, past, within));
  packed = subst₂ (ArePacked 1) (sym none) (sym one) refl;
}

-- ---- one variable more
module _ (p : Description) (i k first last from end : ℕ) (known : k < length p.states + length p.inputs) (some : 0 < count_in p k) (old new : Digits) (so_far : AreDigitsBetween p i first last old)
    (only : (j : ℕ) → from ≤ j → j < end → ((first ≤ j) × (j < last)) ⊎ (k ≡ j))
    (with : IsTrue (depends_on p i k) → IsWithDigit k (count_in p k) old new) (as_before : IsFalse (depends_on p i k) → IsAsBefore old new) where
  pub digits_more : AreDigitsBetween p i from end new
  digits_more = elim (cases_Bool (depends_on p i k)) [ inl depends ↦ more depends (with depends) | inr free ↦ same free (as_before free) ]
    where
      more : depends_on p i k ≡ true → IsWithDigit k (count_in p k) old new → AreDigitsBetween p i from end new
      more depends is =
          let ds : List Digit = old.each.items in
          let d : Digit = record { variable = k; count = count_in p k; stride = old.slots } in
          let own : IsDigitOf p i d = record { variable = known; depends = depends; count = refl } in
          record {
            each = subst (All (IsDigitOf p i)) (sym is.each) (All-push (IsDigitOf p i) ds d so_far.each own);
            all = λ j past before stands. subst (λ (ds : List Digit). HasDigit ds j) (sym is.each) (elim (only j past before) [
              | inl within ↦ has_kept ds d j (so_far.all j within.0 within.1 stands)
              | inr here ↦ has_added ds d j here
            ]);
            packed = subst₂ (ArePacked 1) (sym is.each) (sym is.slots) (packed_more 1 old.slots ds d so_far.packed refl);
          }

      same : depends_on p i k ≡ false → IsAsBefore old new → AreDigitsBetween p i from end new
      same free is = record {
        each = subst (All (IsDigitOf p i)) (sym is.each) so_far.each;
        all = λ j past before stands. subst (λ (ds : List Digit). HasDigit ds j) (sym is.each) (elim (only j past before) [
          | inl within ↦ so_far.all j within.0 within.1 stands
          | inr here ↦ absurd (both_ways (depends_on p i k) free (ap (depends_on p i) here ∙ stands))
        ]);
        packed = subst₂ (ArePacked 1) (sym is.each) (sym is.slots) so_far.packed;
      }

  -- it makes no more slots than its indices make of those before
  pub slots_more : new.slots ≤ old.slots * count_in p k
  slots_more = elim (cases_Bool (depends_on p i k)) [
    | inl depends ↦ omega (arith, (with depends).slots)
    | inr free ↦ omega (arith, (as_before free).slots, mul-le old.slots 1 old.slots (count_in p k) (omega arith) some)
  ]

-- the variables before are those so far
pub one_before : (v n j : ℕ) → 0 < v → v - 1 ≤ j → j < n → ((v ≤ j) × (j < n)) ⊎ (v - 1 ≡ j)
one_before v n j some past before = elim (cases_lt j v) [ inl here ↦ inr (omega (arith, past, here)) | inr later ↦ inl (later, before) ]

pub one_after : (n j : ℕ) → 0 ≤ j → j < n + 1 → ((0 ≤ j) × (j < n)) ⊎ (n ≡ j)
one_after n j past before = elim (cases_lt j n) [ inl sooner ↦ inl (past, sooner) | inr here ↦ inr (omega (arith, before, here)) ]

-- ---- how many slots there are, with one variable more
module _ (p : Description) (slots more : ℕ) where
  pub few_along : (v : ℕ) → 0 < v → v ≤ length p.states → slots ≤ size (drop v (counts_of (axes_of p))) → more ≤ slots * count_in p (v - 1) → more ≤ size (drop (v - 1) (counts_of (axes_of p)))
  few_along v some within few by =
      let s : ℕ = size (drop v (counts_of (axes_of p))) in
      let count : ℕ = count_in p (v - 1) in
      let here : size (drop (v - 1) (counts_of (axes_of p))) ≡ count * s = next_along p (v - 1) (omega (arith, some, within)) ∙ ap (λ (n : ℕ). count * size (drop n (counts_of (axes_of p)))) (let back : v - 1 + 1 ≡ v = omega (arith, some) in back) in
      omega (arith, by, here, mul-le slots count s count few (omega arith))

  pub few_among : (j : ℕ) → j < length p.inputs → slots * size (drop j (value_counts p.inputs)) ≤ pairs_of_plant p → more ≤ slots * count_in p (length p.states + j) → more * size (drop (j + 1) (value_counts p.inputs)) ≤ pairs_of_plant p
  few_among j within few by =
      let s : ℕ = size (drop (j + 1) (value_counts p.inputs)) in
      let back : j ≡ length p.states + j - length p.states = omega arith in
      let count : value_count p.inputs j ≡ count_in p (length p.states + j) = ap (value_count p.inputs) back ∙ count_among p (length p.states + j) (omega arith) in
      omega (arith, few, mul-le more s (slots * count_in p (length p.states + j)) s by (omega arith), ap (λ (n : ℕ). slots * n) (next_among p j within ∙ ap (λ (n : ℕ). n * s) count))

  -- they are few, since there are later inputs
  pub few_for_each : IsPlant p → (j : ℕ) → slots * size (drop j (value_counts p.inputs)) ≤ pairs_of_plant p → slots ≤ pairs_of_plant p
  few_for_each plant j few = omega (arith, few, mul-le slots 1 slots (size (drop j (value_counts p.inputs))) (omega arith) (some_rest (value_counts p.inputs) j (some_vectors p.inputs plant.inputs)))

pub variables : (p : Description) (i : ℕ) (digits : List Digit) → All (IsDigitOf p i) digits → All (λ (d : Digit). d.variable < length p.states + length p.inputs) digits
variables p i digits each = All-weaker (IsDigitOf p i) (λ (d : Digit). d.variable < length p.states + length p.inputs) (λ d is. is.variable) digits each

-- ---- what the digits say of pairs
module _ (p : Description) (plant : IsPlant p) (sound : IsSound p) (i : ℕ) (digits : List Digit) (slots : ℕ) (are : AreDigitsOf p i digits slots) where
  counts : All (λ (d : Digit). 0 < d.count) digits
  counts = All-weaker (IsDigitOf p i) (λ (d : Digit). 0 < d.count) (λ d is. omega (arith, is.count, some_count_in p plant sound d.variable is.variable)) digits are.each

  pub readable : All IsReadable digits
  readable = λ k d lt. (omega (arith, (are.each k d lt).variable, plant.states_bound, plant.inputs_bound), counts k d lt, some_strides 1 slots digits (omega arith) are.packed counts k d lt)

  below : (c u : ℕ) → All (IsBelow (index_in p c u)) digits
  below c u = All-weaker (IsDigitOf p i) (IsBelow (index_in p c u)) (λ d is. omega (arith, is.count, index_in_below p c u d.variable (some_count_in p plant sound d.variable is.variable))) digits are.each

  pub slot_below : (c u : ℕ) → slot_at digits (index_in p c u) < slots
  slot_below c u = omega (arith, (turns (index_in p c u) 1 slots digits are.packed (below c u)).1, (turns (index_in p c u) 1 slots digits are.packed (below c u)).2)

  -- the index of a pair is read from its slot
  index_read : (c u k : ℕ) → k < length p.states + length p.inputs → IsTrue (depends_on p i k) → index_at digits k (slot_at digits (index_in p c u)) ≡ index_in p c u k
  index_read c u k within stands =
      let slot : ℕ = slot_at digits (index_in p c u) in
      let here : 0 + slot ≡ slot = omega arith in
      subst (λ (n : ℕ). index_at digits k n ≡ index_in p c u k) here
      (index_found (index_in p c u) (0 + slot) k digits (are.all k within stands) (all_found (index_in p c u) 1 slots 0 digits (omega arith) are.packed (below c u)))

  -- some pair has the indices of a slot
  pub pair_at : (slot : ℕ) → (c : ℕ) × (u : ℕ) × HasIndices p (λ (k : ℕ). index_at digits k slot) c u
  pair_at slot = pair_with p (λ (k : ℕ). index_at digits k slot) (λ k within. index_below p i k slot digits are.each (some_count_in p plant sound k within))

  -- its extent is that of all pairs that have the slot
  module _ (lt : i < length p.equations) (slot d v : ℕ) (has : HasIndices p (λ (k : ℕ). index_at digits k slot) d v) where
    unshifted : shifted_by p i d ≡ 0
    unshifted = cond_both (shifts_along p i) (index_along (axes_of p) i d) 0 (λ (n : ℕ). n ≡ 0)
        (λ shifts.
        let free : depends_on p i i ≡ false = and_right (mentions (equation_at p i) i) (not (shifts_along p i && eqb i i)) (ap not (and_from (shifts_along p i) (eqb i i) shifts (eq-eqb i i refl))) in
        has.along i (omega (arith, lt, sound.one_each)) ∙ no_index p i i slot digits are.each free)
        (λ fixed. refl)

    pub extent_for : (extent : Option Extent) → IsExtentBeforeAt p d v i 0 extent → IsExtentFor p i digits slot extent
    extent_for extent is = record {
      relative = extended_at p sound i lt d v 0 extent is;
      each = λ c u cell input same.
          alike_extent p i c u d v sound lt cell input has.cell has.input
          (λ k within stands. sym (index_read c u k within stands) ∙ ap (index_at digits k) same ∙ sym (pair_indices p (λ (k : ℕ). index_at digits k slot) d v has k within))
          extent (subst (λ (n : ℕ). IsExtentBeforeAt p d v i n extent) (sym unshifted) is);
    }
