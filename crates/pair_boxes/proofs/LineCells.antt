-- Cells of a line differ in the index along the last state alone.
use Rattle.std.proofs.Common.{◌≡◌, ◌≢◌, ℕ, zero, suc, ◌+◌, ◌*◌, ◌/◌, ◌%◌, ◌<◌, ◌≤◌, List, [], ◌∷◌, All, Bool, true, false, eqb, length, drop, set, get_or, get_or-set_other, get_or-set_same, refl, sym, ap, subst, ◌∙◌, arith, inl, inr}
use Rattle.std.specs.Prelude.{◌==◌, IsTrue, if◌then◌else◌}
use Rattle.std.proofs.Math.Nat.{mul_assoc, mul_comm, div-div-eq-div-mul, div-one, div-add-mod'}
use Rattle.std.proofs.lemmas.Bool.{cases_lt, cond_both, eqb-true, eqb-false}
use Rattle.std.proofs.lemmas.List.{length-map, drop_all}
use Rattle.std.proofs.lemmas.List.Elements.{All-weaker}
use Rattle.std.proofs.lemmas.Nat.{div-mul-add, mod-mul-add}
use Rattle.grid_quantiser.specs.declared.axis.Axis.{Axis}
use Rattle.grid_quantiser.specs.Axes.{no_axis, cells_of}
use Rattle.grid_quantiser.specs.Indices.{index_along}
use Rattle.grid_quantiser.proofs.OwnIndices.{index_along_is}
use Rattle.plant_record.specs.Description.{Description, axis_of, axes_of}
use Rattle.plant_record.specs.Plants.{IsPlant}
use Rattle.successor_box.specs.PairExtents.{index_in, shifts_along}
use Rattle.pair_boxes.specs.declared.digits.Digit.{Digit}
use Rattle.pair_boxes.specs.declared.terms.TermTable.{TermTable}
use Rattle.pair_boxes.specs.inside.CellLines.{last_state, line_length, AreInLine, IsInLineOf, StaysAlongLines}
use Rattle.pair_boxes.specs.inside.Terms.{AreIndicesOf, step_of, Brings, IsTermTableOf}
use Rattle.pair_boxes.specs.inside.Digits.{slot_at}
use Rattle.pair_boxes.proofs.PackedDigits.{next_digit, same_slots}
use Rattle.successor_box.proofs.LineValues.{state_slot}
use Rattle.pair_boxes.proofs.PairDigits.{no_value_index}

-- the cells along the later axes are whole lines
whole_rows : (axes : List Axis) (k last : ℕ) → length axes ≡ suc last → k ≤ last → (g : ℕ) × (cells_of (drop k axes) ≡ g * (get_or axes last no_axis).count)
whole_rows [] k last long le = absurd (omega (arith, long))
whole_rows (a ∷ []) zero zero long le = (1, omega arith)
whole_rows (a ∷ b ∷ axes) zero zero long le = absurd (omega (arith, long))
whole_rows (a ∷ axes) zero (suc last) long le =
    let later = whole_rows axes 0 last (omega (arith, long)) (omega arith) in
    (a.count * later.0, ap (λ (n : ℕ). a.count * n) later.1 ∙ sym (mul_assoc a.count later.0 (get_or axes last no_axis).count))
whole_rows (a ∷ axes) (suc k) zero long le = absurd (omega (arith, le))
whole_rows (a ∷ axes) (suc k) (suc last) long le = whole_rows axes k last (omega (arith, long)) (omega (arith, le))

-- the index along an earlier axis depends on the line alone
row_slot : (axes : List Axis) (last i c d : ℕ) → length axes ≡ suc last → i < last → d / (get_or axes last no_axis).count ≡ c / (get_or axes last no_axis).count → index_along axes i c ≡ index_along axes i d
row_slot axes last i c d long lt same =
    let r : ℕ = (get_or axes last no_axis).count in
    let n : ℕ = (get_or axes i no_axis).count in
    let rows = whole_rows axes (i + 1) last long (omega (arith, lt)) in
    let in_lines : (e : ℕ) → index_along axes i e ≡ e / r / rows.0 % n =
    λ e. index_along_is axes i e ∙ ap (λ (m : ℕ). e / m % n) (rows.1 ∙ mul_comm rows.0 r) ∙ ap (λ (m : ℕ). m % n) (sym (div-div-eq-div-mul e r rows.0))
    in
    in_lines c ∙ ap (λ (q : ℕ). q / rows.0 % n) (sym same) ∙ sym (in_lines d)

last_slot : (axes : List Axis) (last c : ℕ) → length axes ≡ suc last → index_along axes last c ≡ c % (get_or axes last no_axis).count
last_slot axes last c long =
    let none : drop (last + 1) axes ≡ [] = drop_all (last + 1) axes (omega (arith, long)) in
    index_along_is axes last c ∙ ap (λ (later : List Axis). c / cells_of later % (get_or axes last no_axis).count) none ∙ ap (λ (n : ℕ). n % (get_or axes last no_axis).count) (div-one c)

-- a cell some indices further along the line
pub line_step : (c k r : ℕ) → c % r + k < r → ((c + k) / r ≡ c / r) × ((c + k) % r ≡ c % r + k)
line_step c k r within =
    let terms : c / r * r + (c % r + k) ≡ c + k = omega (arith, div-add-mod' c r) in
    (ap (λ (n : ℕ). n / r) (sym terms) ∙ div-mul-add (c / r) r (c % r + k) within, ap (λ (n : ℕ). n % r) (sym terms) ∙ mod-mul-add (c / r) r (c % r + k) within)

module _ (p : Description) (plant : IsPlant p) where
  long : length (axes_of p) ≡ suc (last_state p)
  long = omega (arith, length-map p.states axis_of, plant.some_state)

  -- an index of a cell in another's line
  same_slot : (c d k : ℕ) → d / line_length p ≡ c / line_length p → k ≢ last_state p → index_in p c 0 k ≡ index_in p d 0 k
  same_slot c d k same other =
      elim (cases_lt k (length p.states)) [
        | inl state ↦
            let earlier : k < last_state p = omega (arith, state, other) in
            sym (state_slot p c 0 k state) ∙ row_slot (axes_of p) (last_state p) k c d long earlier same ∙ state_slot p d 0 k state
        | inr past ↦ sym (no_value_index p c k past) ∙ no_value_index p d k past
      ]

  -- what a cell brings to a table that depends on no index along the last state
  same_first : (c d : ℕ) (ds : List Digit) → d / line_length p ≡ c / line_length p → All (λ (e : Digit). e.variable ≢ last_state p) ds → slot_at ds (index_in p c 0) ≡ slot_at ds (index_in p d 0)
  same_first c d ds same stays =
      same_slots (index_in p c 0) (index_in p d 0) ds
      (All-weaker (λ (e : Digit). e.variable ≢ last_state p) (λ (e : Digit). index_in p c 0 e.variable ≡ index_in p d 0 e.variable) (λ e other. same_slot c d e.variable same other) ds stays)

  same_shifts : (i c d : ℕ) (b : Bool) → i < length p.states → d / line_length p ≡ c / line_length p → (IsTrue b → i ≢ last_state p) → (if b then index_along (axes_of p) i c else 0) ≡ (if b then index_along (axes_of p) i d else 0)
  same_shifts i c d true lt same stays = state_slot p c 0 i lt ∙ same_slot c d i same (stays refl) ∙ sym (state_slot p d 0 i lt)
  same_shifts i c d false lt same stays = refl

  -- what brings to a table what a cell does, does so for its whole line
  pub brings_in_row : (i : ℕ) (t : TermTable) (first own c d : ℕ) → i < length p.states → IsTermTableOf p i t → StaysAlongLines (last_state p) i t → IsInLineOf p c d → Brings p i t first own c → Brings p i t first own d
  brings_in_row i t first own c d lt held stays row brought = record {
    cell = row.0;
    first = brought.first ∙ same_first c d t.digits.items row.1 stays.digits;
    shifts = brought.shifts ∙ same_shifts i c d (shifts_along p i) lt row.1 (λ shifts. stays.shifts (subst IsTrue (sym held.shifts) shifts));
  }

  -- the index along another axis of a cell further along the line, and that along the last one
  pub same_place : (c k n j : ℕ) → AreInLine p c n → k < n → j ≢ last_state p → index_in p c 0 j ≡ index_in p (c + k) 0 j
  same_place c k n j row lt other = same_slot c (c + k) j (line_step c k (line_length p) (omega (arith, row.row, lt))).0 other

  pub later_place : (c k n : ℕ) → AreInLine p c n → k < n → index_in p c 0 (last_state p) + k ≡ index_in p (c + k) 0 (last_state p)
  later_place c k n row lt =
      let last : last_state p < length p.states = omega (arith, plant.some_state) in
      omega (arith, state_slot p c 0 (last_state p) last, state_slot p (c + k) 0 (last_state p) last, last_slot (axes_of p) (last_state p) c long, last_slot (axes_of p) (last_state p) (c + k) long, (line_step c k (line_length p) (omega (arith, row.row, lt))).1)

  -- the index of a cell further along the line
  place_in_line : (c k n j : ℕ) → AreInLine p c n → k < n → index_in p (c + k) 0 j ≡ index_in p c 0 j + k * (if j == last_state p then 1 else 0)
  place_in_line c k n j row lt =
      cond_both (eqb j (last_state p)) 1 0 (λ (m : ℕ). index_in p (c + k) 0 j ≡ index_in p c 0 j + k * m)
      (λ own. let is = eqb-true j (last_state p) own in omega (arith, later_place c k n row lt, ap (index_in p c 0) is, ap (index_in p (c + k) 0) is))
      (λ other. omega (arith, same_place c k n j row lt (eqb-false j (last_state p) other)))

  -- what it brings to a table, and by how much it shifts the extents
  first_in_line : (c k n : ℕ) (ds : List Digit) → AreInLine p c n → k < n → slot_at ds (index_in p (c + k) 0) ≡ slot_at ds (index_in p c 0) + k * slot_at ds (λ (j : ℕ). if j == last_state p then 1 else 0)
  first_in_line c k n [] row lt = omega arith
  first_in_line c k n (d ∷ ds) row lt =
      let unit : ℕ → ℕ = λ j. if j == last_state p then 1 else 0 in
      let here = ap (λ (m : ℕ). m * d.stride) (place_in_line c k n d.variable row lt) in
      omega (arith, here, first_in_line c k n ds row lt, next_digit (index_in p (c + k) 0) d ds, next_digit (index_in p c 0) d ds, ap (λ (m : ℕ). k * m) (next_digit unit d ds))

  shifted_in_line : (i c k n : ℕ) (b : Bool) → i < length p.states → AreInLine p c n → k < n →
      (if b then index_along (axes_of p) i c else 0) + k * (if b then (if i == last_state p then 1 else 0) else 0) ≡ (if b then index_along (axes_of p) i (c + k) else 0)
  shifted_in_line i c k n true lt row within = omega (arith, state_slot p c 0 i lt, state_slot p (c + k) 0 i lt, place_in_line c k n i row within)
  shifted_in_line i c k n false lt row within = omega arith

  -- where a line has one cell, the step is of no account
  pub brings_in_line : (i : ℕ) (t : TermTable) (c k n first own step own_step : ℕ) → i < length p.states → t.shifts ≡ shifts_along p i → AreInLine p c n → k < n →
      (1 < n → step ≡ step_of t (last_state p)) → own_step ≡ (if t.shifts then (if i == last_state p then 1 else 0) else 0) → Brings p i t first own c → Brings p i t (first + k * step) (own + k * own_step) (c + k)
  brings_in_line i t c k n first own step own_step lt shifts row within step_is own_is brought =
      let steps : k * step ≡ k * step_of t (last_state p) =
      elim (cases_lt 1 n) [
        | inl more ↦ ap (λ (m : ℕ). k * m) (step_is more)
        | inr one ↦ let none : k ≡ 0 = omega (arith, within, one) in omega (arith, ap (λ (m : ℕ). m * step) none, ap (λ (m : ℕ). m * step_of t (last_state p)) none)
      ]
      in
      let unit : ℕ = if i == last_state p then 1 else 0 in
      let own_by : own_step ≡ (if shifts_along p i then unit else 0) = own_is ∙ ap (λ (b : Bool). if b then unit else 0) shifts in
      record {
        cell = omega (arith, row.within, within);
        first = omega (arith, brought.first, steps, first_in_line c k n t.digits.items row within);
        shifts = omega (arith, brought.shifts, ap (λ (m : ℕ). k * m) own_by, shifted_in_line i c k n (shifts_along p i) lt row within);
      }

  -- the indices of a cell further along the line
  pub indices_in_line : (c k n first : ℕ) (indices : List ℕ) → AreInLine p c n → k < n → last_state p < length indices → first ≡ index_in p c 0 (last_state p) →
      ((j : ℕ) → j < length p.states + length p.inputs → j ≢ last_state p → get_or indices j 0 ≡ index_in p c 0 j) → AreIndicesOf p (c + k) (set indices (last_state p) (first + k))
  indices_in_line c k n first indices row lt wide is others = λ j within.
      let elsewhere : j ≢ last_state p → get_or (set indices (last_state p) (first + k)) j 0 ≡ index_in p (c + k) 0 j =
      λ other. get_or-set_other indices (last_state p) j (first + k) 0 other ∙ others j within other ∙ same_place c k n j row lt other
      in
      elim (cases_lt j (last_state p)) [
        | inl before ↦ elsewhere (omega (arith, before))
        | inr past ↦
            elim (cases_lt (last_state p) j) [
              | inl after ↦ elsewhere (omega (arith, after))
              | inr at ↦
                  let here : j ≡ last_state p = omega (arith, past, at) in
                  subst (λ (i : ℕ). get_or (set indices (last_state p) (first + k)) i 0 ≡ index_in p (c + k) 0 i) (sym here) (get_or-set_same indices (last_state p) (first + k) 0 wide ∙ ap (λ (n : ℕ). n + k) is ∙ later_place c k n row lt)
            ]
      ]

  pub last_among : last_state p < length p.states + length p.inputs
  last_among = omega (arith, plant.some_state)

  -- a cell further along the line is in the line
  pub further_in_line : (c k n : ℕ) → AreInLine p c n → k < n → IsInLineOf p c (c + k)
  further_in_line c k n row lt = (omega (arith, row.within, lt), (line_step c k (line_length p) (omega (arith, row.row, lt))).0)
