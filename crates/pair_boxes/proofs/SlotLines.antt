-- Slots in a line.
use Rattle.std.proofs.Common.{◌≡◌, ℕ, ◌+◌, ◌-◌, ◌*◌, ◌/◌, ◌%◌, ◌<◌, ◌≤◌, Bool, true, false, eqb, List, [], ◌∷◌, Option, None, length, min, get_or, refl, sym, ap, subst, ◌∙◌, arith}
use Rattle.std.specs.Prelude.{◌==◌, if◌then◌else◌}
use Rattle.std.proofs.Math.Nat.{div-div-eq-div-mul, div-one}
use Rattle.std.proofs.lemmas.Bool.{cond_both, eqb-true}
use Rattle.grid_quantiser.specs.declared.extents.Extent.{Extent}
use Rattle.plant_record.specs.Description.{Description}
use Rattle.plant_record.specs.Plants.{IsPlant}
use Rattle.plant_record.specs.Soundness.{IsSound}
use Rattle.successor_box.specs.CellLines.{IsCellOn, AreCellsOn, LiesInGrid, HoldExtentsUnder}
use Rattle.successor_box.specs.PairExtents.{AreInputIndices}
use Rattle.pair_boxes.specs.declared.digits.Digit.{Digit}
use Rattle.pair_boxes.specs.inside.Digits.{index_at, AreIndicesAt, LieAlong, LieInLines, ArePacked, AreDigitsOf}
use Rattle.pair_boxes.specs.inside.ExtentTables.{HoldExtentsFrom}
use Rattle.pair_boxes.proofs.EquationDigits.{pair_at, extent_for}
use Rattle.pair_boxes.proofs.LineCells.{line_step}
use Rattle.pair_boxes.proofs.PairDigits.{some_count_in}

-- digits from a stride on are the same at numbers that have the same quotient by it
same_above : (t all n m k : ℕ) (ds : List Digit) → ArePacked t ds all → n / t ≡ m / t → index_at ds k n ≡ index_at ds k m
same_above t all n m k [] packed same = refl
same_above t all n m k (d ∷ ds) packed same =
    by (eqb k d.variable) (same_above (t * d.count) all n m k ds packed.1 (sym (div-div-eq-div-mul n t d.count) ∙ ap (λ (q : ℕ). q / d.count) same ∙ div-div-eq-div-mul m t d.count))
  where
    by : (b : Bool) → index_at ds k n ≡ index_at ds k m → (if b then n / d.stride % d.count else index_at ds k n) ≡ (if b then m / d.stride % d.count else index_at ds k m)
    by true later = ap (λ (s : ℕ). n / s % d.count) packed.0 ∙ ap (λ (q : ℕ). q % d.count) same ∙ ap (λ (s : ℕ). m / s % d.count) (sym packed.0)
    by false later = later

-- where the lowest digit rises the others stay
lies_along : (all slot n : ℕ) (d : Digit) (ds : List Digit) → ArePacked 1 (d ∷ ds) all → slot % d.count + n ≤ d.count → LieAlong (d ∷ ds) d.variable slot n
lies_along all slot n d ds packed within j k lt = by (eqb k d.variable)
  where
    step : ((slot + j) / d.count ≡ slot / d.count) × ((slot + j) % d.count ≡ slot % d.count + j)
    step = line_step slot j d.count (omega (arith, within, lt))

    lowest : (m : ℕ) → m / d.stride ≡ m
    lowest m = ap (λ (s : ℕ). m / s) packed.0 ∙ div-one m

    by : (b : Bool) → (if b then (slot + j) / d.stride % d.count else index_at ds k (slot + j)) ≡ (if b then slot / d.stride % d.count else index_at ds k slot) + (if b then j else 0)
    by true = ap (λ (m : ℕ). m % d.count) (lowest (slot + j)) ∙ step.1 ∙ ap (λ (m : ℕ). m % d.count + j) (sym (lowest slot))
    by false =
        let one : 1 * d.count ≡ d.count = omega arith in
        omega (arith, same_above (1 * d.count) all (slot + j) slot k ds packed.1 (ap (λ (s : ℕ). (slot + j) / s) one ∙ step.0 ∙ ap (λ (s : ℕ). slot / s) (sym one)))

-- slots lie in lines along the state that has the lowest digit
pub lowest_lines : (p : Description) → IsPlant p → IsSound p → (i slots : ℕ) (digits : List Digit) (d e : Digit) → AreDigitsOf p i digits slots → 0 < length digits → get_or digits 0 e ≡ d → d.variable < length p.states → LieInLines p digits (record { along = d.variable; count = d.count })
lowest_lines p plant sound i slots [] d e are some is state = absurd (omega (arith, some))
lowest_lines p plant sound i slots (f ∷ ds) d e are some is state =
    let own = are.each 0 f (omega arith) in
    subst (λ (d : Digit). LieInLines p (f ∷ ds) (record { along = d.variable; count = d.count })) is (record {
      state = subst (λ (d : Digit). d.variable < length p.states) (sym is) state;
      some = omega (arith, own.count, some_count_in p plant sound f.variable own.variable);
      each = λ slot n within. lies_along slots slot n f ds are.packed within;
    })

-- ---- slots in a line, from one with these indices on

pub record AreSlotsAlong (p : Description) (i : ℕ) (digits : List Digit) (slots along slot n : ℕ) (indices : List ℕ) : Type 0 where
  pub plant : IsPlant p
  pub sound : IsSound p
  pub are : AreDigitsOf p i digits slots
  pub state : along < length p.states
  pub hold : AreIndicesAt digits slot indices
  pub line : LieAlong digits along slot n

module _ {p : Description} {i slots along slot n : ℕ} {digits : List Digit} {indices : List ℕ} (it : AreSlotsAlong p i digits slots along slot n indices) where
  here : (k : ℕ) → k < length p.states + length p.inputs → get_or indices k 0 ≡ index_at digits k slot
  here k within = it.hold k (omega (arith, within, it.plant.states_bound, it.plant.inputs_bound))

  -- cells of the grid have their indices
  pub lies_in_grid : LiesInGrid p indices along n
  lies_in_grid places lt =
      let pair = pair_at p it.plant it.sound i digits slots it.are (slot + places) in (
        pair.0,
        record {
          cell = pair.2.cell;
          each = λ k state. pair.2.along k state ∙ it.line places k lt ∙ ap (λ (m : ℕ). m + (if k == along then places else 0)) (sym (here k (omega (arith, state))));
        },
      )

  pub cells_in_lanes : 1 ≤ n → (cell : ℕ → ℕ) × AreCellsOn p indices along n cell
  cells_in_lanes some =
      let at : (lane : ℕ) → (c : ℕ) × IsCellOn p indices along (min lane (n - 1)) c = λ lane. lies_in_grid (min lane (n - 1)) (omega (arith, some)) in
      (λ lane. (at lane).0, λ lane below. (at lane).1)

  -- and so has an input
  pub input_here : (u : ℕ) × AreInputIndices p indices u
  input_here = let pair = pair_at p it.plant it.sound i digits slots it.are slot in (pair.1, record { input = pair.2.input; each = λ k within. here (length p.states + k) (omega (arith, within)) ∙ sym (pair.2.values k within) })

  pub extents_in_line : i < length p.equations → (cell : ℕ → ℕ) (u : ℕ) → AreCellsOn p indices along n cell → AreInputIndices p indices u →
      (extents : List (Option Extent)) → length extents ≡ n → n ≤ 32 → HoldExtentsUnder p cell u i extents → HoldExtentsFrom p i digits slot extents
  extents_in_line lt cell u on values extents long few held j below =
      let within : j < n = omega (arith, below, long) in
      let place : min j (n - 1) ≡ j = omega (arith, within) in
      let lane = on j (omega (arith, within, few)) in
      extent_for p it.plant it.sound i digits slots it.are lt (slot + j) (cell j) u (record {
        cell = lane.cell;
        input = values.input;
        along = λ k state. lane.each k state ∙ ap (λ (m : ℕ). get_or indices k 0 + (if k == along then m else 0)) place ∙ ap (λ (m : ℕ). m + (if k == along then j else 0)) (here k (omega (arith, state))) ∙ sym (it.line j k within);
        values = λ k lt.
            let other : (if (length p.states + k) == along then j else 0) ≡ 0 = cond_both (eqb (length p.states + k) along) j 0 (λ (m : ℕ). m ≡ 0) (λ own. absurd (omega (arith, eqb-true (length p.states + k) along own, it.state))) (λ other. refl) in
            omega (arith, values.each k lt, here (length p.states + k) (omega (arith, lt)), it.line j (length p.states + k) within, other);
      }) (get_or extents j None) (held j below)
