-- Cells of a line, one in each lane.
use Rattle.std.proofs.Common.{◌≡◌, ℕ, ◌+◌, ◌-◌, ◌<◌, List, Option, None, eqb, length, min, get_or, sym, ap, subst, ◌∙◌, arith}
use Rattle.std.proofs.lemmas.Bool.{cond_both, eqb-true, eqb-false}
use Rattle.grid_quantiser.specs.declared.extents.Extent.{Extent}
use Rattle.grid_quantiser.specs.Indices.{index_along}
use Rattle.plant_record.specs.Description.{Description, axes_of}
use Rattle.plant_record.specs.Plants.{IsPlant}
use Rattle.plant_record.specs.ValueIndices.{value_index}
use Rattle.successor_box.specs.CellLines.{IsCellOn, AreCellsOn, LiesInGrid, HoldExtentsUnder}
use Rattle.successor_box.specs.PairExtents.{index_in, AreInputIndices, IsExtentBeforeAt}
use Rattle.pair_boxes.specs.inside.CellLines.{last_state, AreCellsFrom, AreExtentsUnder}
use Rattle.pair_boxes.proofs.LineCells.{same_place, later_place}
use Rattle.plant_record.proofs.lemmas.InputVectors.{some_vectors}
use Rattle.successor_box.proofs.LineValues.{state_slot, among_slot}

-- the cells from one on, and the last of so many in the lanes past it
abbrev pub cell_in : ℕ → ℕ → ℕ → ℕ
cell_in c n lane = c + min lane (n - 1)

module _ (p : Description) (plant : IsPlant p) (indices : List ℕ) (c n : ℕ) (from : AreCellsFrom p indices c n) where
  -- they stand along the last state
  cell_on : (k : ℕ) → k < n → IsCellOn p indices (last_state p) k (c + k)
  cell_on k lt =
      let At : ℕ → ℕ → Type 0 = λ j m. index_along (axes_of p) j (c + k) ≡ get_or indices j 0 + m in
      let is : (j m : ℕ) → j < length p.states → index_in p (c + k) 0 j ≡ index_in p c 0 j + m → At j m =
      λ j m state further. omega (arith, state_slot p (c + k) 0 j state, from.1 j (omega (arith, state)), further)
      in
      record {
        cell = omega (arith, from.0.within, lt);
        each = λ j state.
            cond_both (eqb j (last_state p)) k 0 (At j)
            (λ own. subst (λ (i : ℕ). At i k) (sym (eqb-true j (last_state p) own)) (is (last_state p) k (omega (arith, plant.some_state)) (sym (later_place p plant c k n from.0 lt))))
            (λ other. is j 0 state (omega (arith, same_place p plant c k n j from.0 lt (eqb-false j (last_state p) other))));
      }

  pub cells_on : AreCellsOn p indices (last_state p) n (cell_in c n)
  cells_on lane below = cell_on (min lane (n - 1)) (omega (arith, from.0.some))

  pub cells_in_grid : LiesInGrid p indices (last_state p) n
  cells_in_grid places lt = (c + places, cell_on places lt)

  -- and the first input vector has the indices
  pub first_input : AreInputIndices p indices 0
  first_input = record {
    input = omega (arith, some_vectors p.inputs plant.inputs);
    each = λ k lt.
        let back : length p.states + k - length p.states ≡ k = omega arith in
        from.1 (length p.states + k) (omega (arith, lt)) ∙ sym (among_slot p c 0 (length p.states + k) (omega arith)) ∙ ap (λ (j : ℕ). value_index p.inputs j 0) back;
  }

-- extents in the lanes are those of the cells from one on
pub extents_here : (p : Description) (c n u i : ℕ) (extents : List (Option Extent)) → length extents ≡ n → HoldExtentsUnder p (cell_in c n) u i extents → AreExtentsUnder p c u i extents
extents_here p c n u i extents long hold k below =
    let here : min k (n - 1) ≡ k = omega (arith, below, long) in
    subst (λ (m : ℕ). IsExtentBeforeAt p (c + m) u i 0 (get_or extents k None)) here (hold k below)
