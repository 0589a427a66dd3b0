-- The values of the variables at the centres of cells in a line.
use Rattle.std.proofs.Common.{◌≡◌, ◌≢◌, ℕ, ◌+◌, ◌-◌, ◌/◌, ◌<◌, ◌≤◌, List, length, map, take, set, eqb, get_or, get_or-set_other, get_or-set_same, refl, sym, ap, subst, ◌∙◌, arith, inl, inr}
use Rattle.std.specs.Prelude.{ℤ, pos, min, ◌==◌}
use Rattle.std.proofs.Math.Nat.{mod-le, div-le_self}
use Rattle.std.proofs.lemmas.Bool.{cases_lt, cases_eq, eq-eqb, eqb-true, cond-true, cond_both}
use Rattle.std.proofs.lemmas.List.{length-map, length-set, length-take-le, get_or-take, ext_get_or}
use Rattle.expr_lanes.specs.declared.lane_eval.ValuesAlong.{ValuesAlong}
use Rattle.fixed_expr.specs.declared.lanes.TheConstants.{LANES}
use Rattle.fixed_expr.specs.Expression.{NumExpr}
use Rattle.fixed_expr.specs.Value.{StaysInRange}
use Rattle.mixed_radix.specs.Radix.{stride}
use Rattle.grid_quantiser.specs.Axes.{no_axis, counts_of, cells_of}
use Rattle.grid_quantiser.specs.Cells.{centre_of, point_of}
use Rattle.grid_quantiser.specs.Indices.{index_along, middle_of}
use Rattle.grid_quantiser.proofs.OwnIndices.{index_along_below}
use Rattle.plant_record.specs.Description.{Description, axis_of, axes_of, vectors_of, vector_of}
use Rattle.plant_record.specs.ValueIndices.{value_index}
use Rattle.plant_record.specs.Soundness.{IsSound}
use Rattle.plant_record.specs.Steps.{equation_at}
use Rattle.successor_box.specs.declared.cell_line.CellLine.{CellLine}
use Rattle.successor_box.specs.SuccessorBoxes.{noise_centre, central_values}
use Rattle.successor_box.specs.Deviations.{HasNoOverflow}
use Rattle.successor_box.specs.CellLines.{IsCellOn, AreCellsOn, AreCentresOf}
use Rattle.successor_box.specs.PairExtents.{AreInputIndices}
use Rattle.successor_box.specs.inside.Additive.{IsNoInput, DifferInInputs}
use Rattle.successor_box.specs.inside.Area.{variables_of}
use Rattle.successor_box.specs.inside.Lines.{HasIndexIn, AreValuesUnder}
use Rattle.successor_box.proofs.AlikePairs.{central_state, central_middle, central_input, central_noise}
pub use Rattle.successor_box.proofs.AlikePairs.{state_slot, among_slot}
use Rattle.successor_box.proofs.Below.{centres_are_near}
use Rattle.successor_box.proofs.CellValues.{centres_are_noise}
use Rattle.successor_box.proofs.Centres.{central_count, central_list}
use Rattle.successor_box.proofs.Middles.{IsMiddle, axis_at, middle_from}
use Rattle.successor_box.proofs.Padding.{domain_more}
use Rattle.successor_box.proofs.Steps.{step_stays}

-- ---- the central values of a pair

module _ (p : Description) (c u : ℕ) where
  -- an index is that of a state, below its count, or that of a value
  module _ (indices : List ℕ) (k i : ℕ) (has : HasIndexIn p indices k c u) where
    here : k ≡ i → i < length p.states → index_along (axes_of p) i c ≡ get_or indices k 0
    here at lt = ap (λ (j : ℕ). index_along (axes_of p) j c) (sym at) ∙ state_slot p c u k (omega (arith, at, lt)) ∙ has.index (omega (arith, at, lt))

    pub index_within : IsSound p → k ≡ i → i < length p.states → get_or indices k 0 < (get_or (axes_of p) i no_axis).count
    index_within sound at lt = omega (arith, here at lt, index_along_below (axes_of p) i c sound.axes.each (omega (arith, lt, length-map p.states axis_of)))

    pub state_value : IsSound p → k ≡ i → i < length p.states → middle_of (get_or (axes_of p) i no_axis) (get_or indices k 0) ≡ get_or (central_values p c u) k (pos 0)
    state_value sound at lt =
        ap (middle_of (get_or (axes_of p) i no_axis)) (sym (here at lt)) ∙ sym (central_middle p sound c u i has.cell lt) ∙ ap (λ (j : ℕ). get_or (central_values p c u) j (pos 0)) (sym at)

    pub index_of_value : k ≡ length p.states + i → i < length p.inputs → value_index p.inputs i u ≡ get_or indices k 0
    index_of_value at lt = ap (λ (j : ℕ). value_index p.inputs j u) (omega (arith, at)) ∙ among_slot p c u k (omega (arith, at)) ∙ has.index (omega (arith, at, lt))

  -- what is no input has its value under every input
  pub same_centre : (v k : ℕ) → IsNoInput p k → get_or (central_values p c v) k (pos 0) ≡ get_or (central_values p c u) k (pos 0)
  same_centre v k other =
      elim (cases_lt k (length p.states + length p.inputs)) [
        | inl early ↦ central_state p c v k (other early) ∙ sym (central_state p c u k (other early))
        | inr late ↦ central_noise p c v k late ∙ sym (central_noise p c u k late)
      ]

  -- no node of an equation leaves the range at them
  pub stays_at : IsSound p → HasNoOverflow p → c < cells_of (axes_of p) → u < vectors_of p.inputs → (i : ℕ) → i < length p.equations → StaysInRange (equation_at p i) (central_values p c u)
  stays_at sound fits cell input i lt =
      let inside = domain_more (axes_of p) (centre_of (axes_of p) c) _ (centres_are_near (axes_of p) c sound.axes cell).0.0 in
      let stays = step_stays p u (point_of (centre_of (axes_of p) c)) (point_of (map noise_centre p.noises)) sound fits input inside (centres_are_noise p.noises _ sound.noises) in
      subst (StaysInRange (equation_at p i)) (central_list p c u) (stays i (NumExpr (pos 0)) lt)

-- ---- a number is replaced by another

set_at : (xs : List ℤ) (a k : ℕ) (x : ℤ) → k ≡ a → a < length xs → get_or (set xs a x) k (pos 0) ≡ x
set_at xs a k x same lt = ap (λ (n : ℕ). get_or (set xs a x) n (pos 0)) same ∙ get_or-set_same xs a x (pos 0) lt

pub set_both : (xs ys : List ℤ) (a k : ℕ) (x : ℤ) → a < length xs → a < length ys → get_or xs k (pos 0) ≡ get_or ys k (pos 0) → get_or (set xs a x) k (pos 0) ≡ get_or (set ys a x) k (pos 0)
set_both xs ys a k x first second is =
    elim (cases_eq k a) [
      | inl same ↦ set_at xs a k x same first ∙ sym (set_at ys a k x same second)
      | inr other ↦ get_or-set_other xs a k x (pos 0) other ∙ is ∙ sym (get_or-set_other ys a k x (pos 0) other)
    ]

-- ---- a line whose input is set

-- it has the centres of the same cells
pub input_set : (p : Description) (cell : ℕ → ℕ) (u : ℕ) (old : CellLine) (values : List ℤ) → u < vectors_of p.inputs → length p.states ≤ length old.values → length p.states ≤ length values →
    ((k : ℕ) → k < length p.inputs → get_or values (length p.states + k) (pos 0) ≡ get_or (vector_of p.inputs u) k (pos 0)) → DifferInInputs p values old.values →
    AreCentresOf p cell old → AreCentresOf p cell (record { values = values; along = old.along; column = old.column; input = u })
input_set p cell u old values input before after given kept centres = record { along = centres.along; input = input; cells = centres.cells; each = one }
  where
    one : (lane k : ℕ) → lane < LANES → k < variables_of p → get_or (set values old.along (get_or old.column lane (pos 0))) k (pos 0) ≡ get_or (central_values p (cell lane) u) k (pos 0)
    one lane k lt below =
        let x : ℤ = get_or old.column lane (pos 0) in
        let state : old.along < length p.states = centres.along in
        let other : IsNoInput p k → get_or (set values old.along x) k (pos 0) ≡ get_or (central_values p (cell lane) u) k (pos 0) =
        λ none. set_both values old.values old.along k x (omega (arith, state, after)) (omega (arith, state, before)) (kept k none) ∙ centres.each lane k lt below ∙ same_centre p (cell lane) u old.input k none in
        elim (cases_lt k (length p.states)) [
          | inl early ↦ other (λ _. early)
          | inr past ↦
              elim (cases_lt k (length p.states + length p.inputs)) [
                | inl variable ↦
                    let apart : k ≢ old.along = λ is. absurd (omega (arith, is, past, state)) in
                    let there : k ≡ length p.states + (k - length p.states) = omega (arith, past) in
                    get_or-set_other values old.along k x (pos 0) apart ∙ ap (λ (m : ℕ). get_or values m (pos 0)) there ∙ given (k - length p.states) (omega (arith, past, variable)) ∙ sym (central_input p (cell lane) u k past variable)
                | inr noise ↦ other (λ early. absurd (omega (arith, noise, early)))
              ]
        ]

-- ---- its lanes

-- they have its values under its input
pub lanes_of : (p : Description) (cell : ℕ → ℕ) (line : CellLine) (n : ℕ) (at : ValuesAlong) → n ≡ variables_of p → n ≤ length line.values → at.values.now ≡ take n line.values → at.along ≡ line.along → at.column.now ≡ line.column → AreCentresOf p cell line → AreValuesUnder p cell line.input at
lanes_of p cell line n at all enough values-are along-is column-is centres =
    let front : length (take n line.values) ≡ n = length-take-le n line.values enough in
    let long : (lane : ℕ) → length (set (take n line.values) line.along (get_or line.column lane (pos 0))) ≡ variables_of p = λ lane. length-set (take n line.values) line.along (get_or line.column lane (pos 0)) ∙ front ∙ all in
    record {
      long = rw values-are (front ∙ all);
      along = rw (values-are, along-is) (omega (arith, front, all, centres.along));
      cells = centres.cells;
      each = λ lane lt. rw (values-are, along-is, column-is)
          (ext_get_or (pos 0) (set (take n line.values) line.along (get_or line.column lane (pos 0))) (central_values p (cell lane) line.input) (long lane ∙ sym (central_count p (cell lane) line.input))
          (λ k below.
          let known : k < variables_of p = omega (arith, below, long lane) in
          set_both (take n line.values) line.values line.along k (get_or line.column lane (pos 0)) (omega (arith, front, all, centres.along)) (omega (arith, enough, all, centres.along)) (get_or-take n line.values k (pos 0) (omega (arith, known, all))) ∙ centres.each lane k lt known));
    }

-- ---- a new line

module _ (p : Description) (indices : List ℕ) (along places c : ℕ) (is : IsCellOn p indices along places c) where
  index_of_own : along < length p.states → index_along (axes_of p) along c ≡ get_or indices along 0 + places
  index_of_own lt = is.each along lt ∙ ap (λ (n : ℕ). get_or indices along 0 + n) (cond-true (along == along) places 0 (eq-eqb along along refl))

  -- a cell and an input that stand there have its indices, but for the one along the line
  pub indices_there : (u : ℕ) → AreInputIndices p indices u → (k : ℕ) → (k ≡ along → places ≡ 0) → HasIndexIn p indices k c u
  indices_there u inputs k first = record {
    cell = is.cell;
    input = inputs.input;
    index = λ known. elim (cases_lt k (length p.states)) [
      | inl state ↦
          sym (state_slot p c u k state) ∙ is.each k state
          ∙ cond_both (eqb k along) places 0 (λ (n : ℕ). get_or indices k 0 + n ≡ get_or indices k 0) (λ own. omega (arith, first (eqb-true k along own))) (λ other. omega arith)
      | inr past ↦
          let here : length p.states + (k - length p.states) ≡ k = omega (arith, past) in
          sym (among_slot p c u k past) ∙ sym (inputs.each (k - length p.states) (omega (arith, past, known))) ∙ ap (λ (n : ℕ). get_or indices n 0) here
    ];
  }

  -- the middle there
  pub middle_there : IsSound p → (first width : ℤ) → along < length p.states → first ≡ middle_of (get_or (axes_of p) along no_axis) 0 → width ≡ (get_or (axes_of p) along no_axis).width → IsMiddle (get_or (axes_of p) along no_axis) first width (get_or indices along 0 + places)
  middle_there sound first width lt first-is width-is =
      let below = index_along_below (axes_of p) along c sound.axes.each (omega (arith, lt, length-map p.states axis_of)) in
      subst (IsMiddle (get_or (axes_of p) along no_axis) first width) (index_of_own lt) (middle_from (get_or (axes_of p) along no_axis) (index_along (axes_of p) along c) first width (axis_at p sound along lt) below first-is width-is)

  pub index_is_small : along < length p.states → get_or indices along 0 + places ≤ c
  index_is_small lt =
      let counts : List ℕ = counts_of (axes_of p) in
      omega (arith, index_of_own lt, mod-le (c / stride counts along) (get_or counts along 0), div-le_self c (stride counts along))

-- the values at the centres of the pairs with the indices, the input vector that has them, and in the column the middles along the line
pub record IsNewLine (p : Description) (indices : List ℕ) (along cells : ℕ) (line : CellLine) : Type 0 where
  pub own : line.along ≡ along
  pub long : length line.values ≡ 15
  pub inputs : AreInputIndices p indices line.input
  pub each : (k : ℕ) → k < variables_of p → (c u : ℕ) → HasIndexIn p indices k c u → get_or line.values k (pos 0) ≡ get_or (central_values p c u) k (pos 0)
  pub column : (lane : ℕ) → lane < LANES → get_or line.column lane (pos 0) ≡ middle_of (get_or (axes_of p) along no_axis) (get_or indices along 0 + min lane (cells - 1))

pub centres_of_new : (p : Description) (indices : List ℕ) (along cells : ℕ) (line : CellLine) (cell : ℕ → ℕ) → IsSound p → length p.states ≤ 6 → along < length p.states → IsNewLine p indices along cells line → AreCellsOn p indices along cells cell → AreCentresOf p cell line
centres_of_new p indices along cells line cell sound few lt new are =
    record {
      along = omega (arith, lt, new.own);
      input = new.inputs.input;
      cells = λ lane below. (are lane below).cell;
      each = λ lane k below within. rw new.own (one lane below k within);
    }
  where
    one : (lane : ℕ) → lane < LANES → (k : ℕ) → k < variables_of p → get_or (set line.values along (get_or line.column lane (pos 0))) k (pos 0) ≡ get_or (central_values p (cell lane) line.input) k (pos 0)
    one lane below k within =
        let c : ℕ = cell lane in
        let is = are lane below in
        let x : ℤ = get_or line.column lane (pos 0) in
        elim (cases_eq k along) [
          | inl same ↦
              set_at line.values along k x same (omega (arith, lt, few, new.long)) ∙ new.column lane below
              ∙ ap (middle_of (get_or (axes_of p) along no_axis)) (sym (index_of_own p indices along _ c is lt)) ∙ sym (central_middle p sound c line.input along is.cell lt)
              ∙ ap (λ (n : ℕ). get_or (central_values p c line.input) n (pos 0)) (sym same)
          | inr apart ↦ get_or-set_other line.values along k x (pos 0) apart ∙ new.each k within c line.input (indices_there p indices along _ c is line.input new.inputs k (λ same. absurd (apart same)))
        ]
