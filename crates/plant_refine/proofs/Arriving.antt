-- The run of a plant under right rows, sample by sample.
use Rattle.std.proofs.Common.{◌≡◌, ℕ, zero, suc, ◌+◌, ◌*◌, ◌<◌, ◌≤◌, List, [], ◌∷◌, length, take, Option, Some, refl, sym, subst, ap, ◌∙◌, arith, inl, inr}
use Rattle.std.specs.Prelude.{ℤ, slice_get}
use Rattle.std.proofs.lemmas.List.{length-map, length-take-le}
use Rattle.std.proofs.lemmas.Option.{same_Some}
use Rattle.std.proofs.lemmas.Bool.{cases_lt}
use Rattle.game_core.specs.declared.game.Row.{Row}
use Rattle.game_core.specs.Solution.{row_of}
use Rattle.grid_quantiser.specs.declared.axis.Axis.{Axis}
use Rattle.grid_quantiser.specs.Axes.{cells_of}
use Rattle.grid_quantiser.specs.Cells.{IsInDomain, cell_of, index_of, point_of}
use Rattle.plant_record.specs.Description.{Description, axes_of, axis_of}
use Rattle.plant_record.specs.Steps.{step_of}
use Rattle.successor_box.proofs.Padding.{point_lies}
use Rattle.controller_table.specs.Choice.{Chooses, HasRowAt}
use Rattle.plant_record.specs.States.{state_point, LiesInSome, IsClear}
use Rattle.plant_refine.specs.Trajectories.{StepsTo, IsStateAt, ArrivesFirst}
use Rattle.plant_refine.specs.inside.Descents.{HasLowerRow, LeadDown}
use Rattle.controller_table.proofs.RowsAtStates.{in_cell, row_stands}

-- what stands past the states is not looked at
inside_take : (axes : List Axis) (xs : List ℤ) → IsInDomain axes xs → (IsInDomain axes (take (length axes) xs)) × (length axes ≤ length xs)
inside_take [] xs h = (tt, omega arith)
inside_take (a ∷ axes) [] h = absurd h
inside_take (a ∷ axes) (x ∷ xs) h = let rest = inside_take axes xs h.2 in ((h.0, h.1, rest.0), omega (arith, rest.1))

cell_take : (axes : List Axis) (xs : List ℤ) → cell_of axes (take (length axes) xs) ≡ cell_of axes xs
cell_take [] xs = refl
cell_take (a ∷ axes) [] = refl
cell_take (a ∷ axes) (x ∷ xs) = ap (λ (n : ℕ). index_of a x * cells_of axes + n) (cell_take axes xs)

-- a row stands at the start as at the state
at_start : (p : Description) (rows : List (Option Row)) (x : List ℤ) (row : Row) → HasRowAt p rows x row → HasRowAt p rows (state_point p x) row
at_start p rows x row has =
    let count : length (axes_of p) ≡ length p.states = length-map p.states axis_of in
    let at = in_cell p rows x row has in
    let inside = inside_take (axes_of p) x at.0 in
    let start : List ℤ = take (length p.states) x in
    let in_start : IsInDomain (axes_of p) start = subst (λ (n : ℕ). IsInDomain (axes_of p) (take n x)) count inside.0 in
    let cell : cell_of (axes_of p) start ≡ cell_of (axes_of p) x = subst (λ (n : ℕ). cell_of (axes_of p) (take n x) ≡ cell_of (axes_of p) x) count (cell_take (axes_of p) x) in
    let long : length start ≡ length p.states = length-take-le (length p.states) x (omega (arith, count, inside.1)) in
    let same = point_lies p start (omega (arith, long)) in
    row_stands p rows (state_point p x) row (same.0.1 in_start) (ap (row_of rows) (same.1 ∙ cell) ∙ at.1)

-- How far the run has come at a sample before which it lies in no target.
pub record IsUnderWay (p : Description) (rows : List (Option Row)) (x : List ℤ) (ws : List (List ℤ)) (n : ℕ) (y : List ℤ) : Type 0 where
  pub state : IsStateAt p rows x ws n y
  pub row : Row
  pub has : HasRowAt p rows y row
  pub falls : (start : Row) → HasRowAt p rows x start → row.rank + n ≤ start.rank
  pub before : (t : ℕ) (z : List ℤ) → t < n → IsStateAt p rows x ws t z → LiesInSome p p.targets z → ⊥
  pub clear : (t : ℕ) (z : List ℤ) → t ≤ n → IsStateAt p rows x ws t z → IsClear p z

module _ {p : Description} {rows : List (Option Row)} (down : LeadDown p rows) (x : List ℤ) (ws : List (List ℤ)) where
  -- the run has one state at a sample
  one_state : (t : ℕ) (y z : List ℤ) → IsStateAt p rows x ws t y → IsStateAt p rows x ws t z → y ≡ z
  one_state zero y z h k = h ∙ sym k
  one_state (suc t) y z h k =
      let state : h.0 ≡ k.0 = one_state t h.0 k.0 h.2 k.2 in
      let noise : h.1 ≡ k.1 = same_Some h.1 k.1 (sym h.3 ∙ k.3) in
      let input : h.4.0 ≡ k.4.0 = same_Some h.4.0 k.4.0 (sym (subst (λ (s : List ℤ). Chooses p rows s h.4.0) state h.4.1) ∙ k.4.1) in
      h.4.2
      ∙ ap (λ (s : List ℤ). point_of (step_of p s h.4.0 h.1)) state
      ∙ ap (λ (u : ℕ). point_of (step_of p k.0 u h.1)) input
      ∙ ap (λ (w : List ℤ). point_of (step_of p k.0 k.4.0 w)) noise
      ∙ sym k.4.2

  clear_to : (n : ℕ) (y : List ℤ) (row : Row) → IsStateAt p rows x ws n y → HasRowAt p rows y row → ((t : ℕ) (z : List ℤ) → t < n → IsStateAt p rows x ws t z → IsClear p z) → (t : ℕ) (z : List ℤ) → t ≤ n → IsStateAt p rows x ws t z → IsClear p z
  clear_to n y row at has earlier t z le h =
      elim (cases_lt t n) [
        | inl lt ↦ earlier t z lt h
        | inr past ↦
            let same : t ≡ n = omega (arith, past, le) in
            subst (IsClear p) (one_state n y z at (subst (λ (m : ℕ). IsStateAt p rows x ws m z) same h)) (down.clear y row has)
      ]

  pub begins : (row : Row) → HasRowAt p rows x row → (y : List ℤ) → y ≡ state_point p x → IsUnderWay p rows x ws 0 y
  begins row has y is =
      let there : HasRowAt p rows y row = subst (λ (s : List ℤ). HasRowAt p rows s row) (sym is) (at_start p rows x row has) in
      record {
        state = is;
        row = row;
        has = there;
        falls = λ start k. subst (λ (r : Row). row.rank + 0 ≤ r.rank) (same_Some row start (sym has ∙ k)) (omega arith);
        before = λ t z lt. absurd (omega (arith, lt));
        clear = clear_to 0 y row is there (λ t z lt. absurd (omega (arith, lt)));
      }

  pub goes_on : (n : ℕ) (y w z : List ℤ) → IsUnderWay p rows x ws n y → slice_get ws n ≡ Some w → StepsTo p rows y w z → ((row : Row) → HasRowAt p rows y row → HasLowerRow p rows row.rank z) → (LiesInSome p p.targets y → ⊥) → IsUnderWay p rows x ws (suc n) z
  goes_on n y w z h is moves lower out =
      let next = lower h.row h.has in
      let state : IsStateAt p rows x ws (suc n) z = (y, w, h.state, is, moves) in
      record {
        state = state;
        row = next.row;
        has = next.has;
        falls = λ start k. omega (arith, next.lower, h.falls start k);
        before = λ t v lt at met.
            elim (cases_lt t n) [
              | inl less ↦ h.before t v less at met
              | inr past ↦
                  let same : t ≡ n = omega (arith, past, lt) in
                  out (subst (LiesInSome p p.targets) (one_state n v y (subst (λ (m : ℕ). IsStateAt p rows x ws m v) same at) h.state) met)
            ];
        clear = clear_to (suc n) z next.row state next.has (λ t v lt. h.clear t v (omega (arith, lt)));
      }

  pub comes_in : (n : ℕ) (y : List ℤ) → IsUnderWay p rows x ws n y → LiesInSome p p.targets y → ArrivesFirst p rows x ws n y
  comes_in n y h arrived = record { state = h.state; arrived = arrived; first = h.before; clear = h.clear }

  -- outside the targets the rank is above 0
  pub some_rank : (y : List ℤ) (row : Row) → HasRowAt p rows y row → (LiesInSome p p.targets y → ⊥) → 0 < row.rank
  some_rank y row has out =
      elim (cases_lt 0 row.rank) [
        | inl some ↦ some
        | inr none ↦ absurd (out (down.arrived y row has (omega (arith, none))))
      ]
