-- Values under one input and under another, where inputs are only added.
use Rattle.std.proofs.Common.{◌≡◌, ℕ, ◌+◌, ◌-◌, ◌<◌, ◌≤◌, Option, Some, None, Bor, length, get_or, true, false, sym, ap, ap₂, subst, ◌∙◌, arith, inl, inr}
use Rattle.std.specs.Prelude.{ℤ, pos, ◌+ℤ◌, ◌-ℤ◌, IfSome}
use Rattle.std.proofs.lemmas.Bool.{cases_lt, both_ways}
use Rattle.std.proofs.lemmas.Int.{ints}
use Rattle.expr_lanes.specs.declared.lane_eval.ValuesAlong.{ValuesAlong}
use Rattle.fixed_expr.specs.declared.lanes.TheConstants.{LANES}
use Rattle.fixed_expr.specs.Expression.{Expression, AddExpr, SubExpr}
use Rattle.expr_lanes.specs.LaneEval.{lane_of}
use Rattle.fixed_expr.specs.Mentions.{mentions}
use Rattle.fixed_expr.specs.Value.{value_of}
use Rattle.fixed_expr.proofs.Laws.{values_depend_on_variables}
use Rattle.plant_record.specs.Description.{Description, vectors_of}
use Rattle.plant_record.specs.Steps.{equation_at}
use Rattle.successor_box.specs.declared.additive.AdditiveLine.{AdditiveLine}
use Rattle.successor_box.specs.declared.cell_line.CellLine.{CellLine}
use Rattle.successor_box.specs.SuccessorBoxes.{central_values}
use Rattle.successor_box.specs.CellLines.{AreCentresOf}
use Rattle.successor_box.specs.AdditiveInputs.{AreInputIncrements, increased, IsAdditiveLineOf, IsAdditiveAt}
use Rattle.successor_box.specs.inside.Additive.{IsNoInput, NamesNoInput, NamesNoState, DifferInStates, HasAdditiveInputs}
use Rattle.successor_box.specs.inside.Lines.{AreValuesUnder, GivesValues}
use Rattle.successor_box.proofs.AlikePairs.{central_input, central_noise}
use Rattle.successor_box.proofs.LineValues.{same_centre}

-- ---- which expressions are so

module _ (p : Description) where
  -- what stands in an expression is no input variable
  no_input : (e : Expression) (k : ℕ) → NamesNoInput p e → mentions e k ≡ true → IsNoInput p k
  no_input e k free stands early =
      elim (cases_lt k (length p.states)) [
        | inl state ↦ state
        | inr past ↦
            let here : length p.states + (k - length p.states) ≡ k = omega (arith, past) in
            absurd (both_ways (mentions e k) (subst (λ (i : ℕ). mentions e i ≡ false) here (free (k - length p.states) (omega (arith, past, early)))) stands)
      ]

  -- or no state
  no_state : (e : Expression) (k : ℕ) → NamesNoState p e → mentions e k ≡ true → length p.states ≤ k
  no_state e k free stands =
      elim (cases_lt k (length p.states)) [
        | inl state ↦ absurd (both_ways (mentions e k) (free k state) stands)
        | inr past ↦ past
      ]

  pub without_inputs : (e : Expression) → NamesNoInput p e → HasAdditiveInputs p e
  without_inputs e free here there here' there' states states' inputs inputs' =
      ap₂ (λ (x y : ℤ). x -ℤ y)
      (values_depend_on_variables e there there' (λ k stands. inputs' k (no_input e k free stands)))
      (values_depend_on_variables e here here' (λ k stands. inputs k (no_input e k free stands)))

  pub without_states : (e : Expression) → NamesNoState p e → HasAdditiveInputs p e
  without_states e free here there here' there' states states' inputs inputs' =
      let one = values_depend_on_variables e here there (λ k stands. states k (no_state e k free stands)) in
      let other = values_depend_on_variables e here' there' (λ k stands. states' k (no_state e k free stands)) in
      omega (arith, ints, one, other)

  pub of_sum : (a b : Expression) → HasAdditiveInputs p a → HasAdditiveInputs p b → HasAdditiveInputs p (AddExpr a b)
  of_sum a b first second here there here' there' states states' inputs inputs' =
      omega (arith, ints, first here there here' there' states states' inputs inputs', second here there here' there' states states' inputs inputs')

  pub of_difference : (a b : Expression) → HasAdditiveInputs p a → HasAdditiveInputs p b → HasAdditiveInputs p (SubExpr a b)
  of_difference a b first second here there here' there' states states' inputs inputs' =
      omega (arith, ints, first here there here' there' states states' inputs inputs', second here there here' there' states states' inputs inputs')

-- ---- increments from input to input

-- two cells differ in states
other_cell : (p : Description) (c d u : ℕ) → DifferInStates p (central_values p c u) (central_values p d u)
other_cell p c d u k past =
    elim (cases_lt k (length p.states + length p.inputs)) [
      | inl input ↦ central_input p c u k past input ∙ sym (central_input p d u k past input)
      | inr noise ↦ central_noise p c u k noise ∙ sym (central_noise p d u k noise)
    ]

-- an increment in the first cell is one in every cell
pub increment_everywhere : (p : Description) (e : Expression) (c u : ℕ) (increment : ℤ) → HasAdditiveInputs p e → value_of e (central_values p 0 u) ≡ value_of e (central_values p 0 0) +ℤ increment → value_of e (central_values p c u) ≡ value_of e (central_values p c 0) +ℤ increment
increment_everywhere p e c u increment additive is =
    let same = additive (central_values p 0 0) (central_values p c 0) (central_values p 0 u) (central_values p c u) (other_cell p 0 c 0) (other_cell p 0 c u) (same_centre p 0 u 0) (same_centre p c u 0) in
    omega (arith, ints, same, is)

-- ---- the lanes of a line

-- a line that has values under the first input has them under each
pub line_of_first : (p : Description) (i : ℕ) (cell : ℕ → ℕ) (at : ValuesAlong) (first : AdditiveLine) (u lane : ℕ) → AreInputIncrements p i first.increments.now → AreValuesUnder p cell 0 at → u < vectors_of p.inputs → lane < LANES → get_or first.values lane (pos 0) ≡ value_of (equation_at p i) (lane_of at lane)
    → increased first u lane ≡ value_of (equation_at p i) (central_values p (cell lane) u)
line_of_first p i cell at first u lane increments are input lt is =
    omega (arith, ints, is, ap (value_of (equation_at p i)) (are.each lane lt), increments.each (cell lane) u (are.cells lane lt) input)

-- and gives them in the lanes of a line with these centres
pub gives_values : (p : Description) (line : CellLine) (i : ℕ) (at : ValuesAlong) → ((cell : ℕ → ℕ) → AreCentresOf p cell line → AreValuesUnder p cell line.input at) → (additive : Option (Bor AdditiveLine)) → IfSome additive (λ a. IsAdditiveAt p line i a.now) → IfSome additive (λ a. GivesValues (equation_at p i) at line.input a.now)
gives_values p line i at values None known = known
gives_values p line i at values (Some a) known = record {
  within = omega (arith, known.1.input, known.2.long);
  each = λ lane lt. known.2.each line.input lane known.1.input lt ∙ ap (value_of (equation_at p i)) (sym ((values known.0 known.1).each lane lt));
}

-- a line that has such values is one at the centres of another
pub additive_at : (p : Description) (line : CellLine) (i : ℕ) (cell : ℕ → ℕ) → AreCentresOf p cell line → (additive : Option AdditiveLine) → IfSome additive (IsAdditiveLineOf p cell i) → IfSome additive (IsAdditiveAt p line i)
additive_at p line i cell centres None known = known
additive_at p line i cell centres (Some a) known = (cell, centres, known)
