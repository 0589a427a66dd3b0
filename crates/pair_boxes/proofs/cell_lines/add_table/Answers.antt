use Rattle.std.proofs.Common.{◌≡◌, ◌≢◌, ℕ, ◌+◌, ◌-◌, ◌*◌, ◌/◌, ◌<◌, ◌^◌, ◌∙◌, Bool, true, false, eqb, List, Option, None, length, take, drop, set, get_or, get_or-set_other, get_or-set_same, refl, sym, ap, subst, subst₂, arith, rules}
use mir.Val.{bool_byte}
use Rattle.std.specs.Prelude.{◌==◌, if◌then◌else◌}
use Rattle.std.proofs.lemmas.List.{length-set, get_or_default}
use Rattle.grid_quantiser.specs.declared.boxes.CellBox.{CellBox}
use Rattle.plant_record.specs.Description.{vectors_of}
use Rattle.plant_record.proofs.lemmas.SoundPlants.{sound as sound_plant}
use Rattle.pair_boxes.specs.inside.CellLines.{last_state, AreCellsFrom, AreSumsOfCells}
use Rattle.pair_boxes.specs.inside.Terms.{step_of, Brings, IsSumAlong, AreSumsAlong}
use Rattle.pair_boxes.proofs.CellLineLists.{cell_count}
use Rattle.pair_boxes.proofs.LineCells.{brings_in_line}
use Rattle.pair_boxes.proofs.TermTables.{brings, variables_few, first_fits, own_few}
use Rattle.pair_boxes.proofs.WrittenRows.{AreRows, none_written, rows_likewise, one_row, row_was, row_written}
use Rattle.pair_boxes.proofs.cell_lines.add_table.Invariants.{HasTerm}
use Rattle.pair_boxes.proofs.cell_lines.add_table.Goals as goal
use Rattle.pair_boxes.proofs.cell_lines.add_table.Goals.{In-loop-cell, then-cells-gt1, else-cells-gt1}

byte_is : (b : Bool) → bool_byte b ≡ (if b then 1 else 0)
byte_is true = refl
byte_is false = refl

pub loop-cell-init : goal.loop-cell-init
loop-cell-init c = record { bases = search rules; written = none_written _ None _ c.args.boxes.now; left_bases = λ k from. refl }

module _ (c : In-loop-cell) where
  -- the cell's boxes are among all
  row : AreRows (vectors_of c.args.of.now.sampled.plant.now.inputs) c.loop-cell.cell (c.loop-cell.cell + 1) (c.loop-cell.cell * c.vectors-inputs.result) (c.loop-cell.cell * c.vectors-inputs.result + c.vectors-inputs.result - c.loop-cell.cell * c.vectors-inputs.result) (length c.loop-cell.boxes)
  row =
      let cells = c.requires.cells in
      one_row c.loop-cell.cell cells.1 c.vectors-inputs.result _ (length c.loop-cell.boxes)
      (omega (arith, c.loop-cell-test.true, cell_count (length c.args.boxes.now) cells.1 c.vectors-inputs.result _ cells.3.one_each c.vectors-inputs.ensures.count c.vectors-inputs.ensures.some)) c.vectors-inputs.ensures.count (c.loop-cell.invariant.written.long ∙ cells.3.one_each)

  module _ (d n : ℕ) (from : AreCellsFrom c.args.of.now.sampled.plant.now c.args.indices.now d n) (sums : AreSumsOfCells c.args.of.now.sampled.plant.now c.args.of.now.state d n c.args.bases.now c.args.boxes.now) where
    -- it is one of the cells
    count : length c.args.boxes.now / c.vectors-inputs.result ≡ n
    count = cell_count (length c.args.boxes.now) n c.vectors-inputs.result _ sums.one_each c.vectors-inputs.ensures.count c.vectors-inputs.ensures.some

    short : c.loop-cell.cell < length c.loop-cell.bases
    short = omega (arith, c.loop-cell-test.true, count, c.loop-cell.invariant.bases, sums.few)

    -- what it brings
    brought : Brings c.args.of.now.sampled.plant.now c.args.of.now.state c.args.table.now (c.first-first.result + c.loop-cell.cell * c.if-cells-gt1.step) (c.shifted_by-own.result + c.loop-cell.cell * c.shifted_by-own_step.result) (d + c.loop-cell.cell)
    brought =
        let p = c.args.of.now.sampled.plant.now in
        let plant = c.args.of.now.sampled.within.plant in
        let last : c.states-last.result - 1 ≡ last_state p = ap (λ (k : ℕ). k - 1) c.states-last.ensures in
        let step : 1 < n → c.if-cells-gt1.step ≡ step_of c.args.table.now (last_state p) =
        λ more. elim c.if-cells-gt1.branch [
          | then-cells-gt1 w ↦ w.step-is ∙ w.step-step.ensures ∙ ap (step_of c.args.table.now) last
          | else-cells-gt1 w ↦ absurd (omega (arith, more, w.if-cells-gt1.false, count))
        ]
        in
        let own_step = c.shifted_by-own_step.ensures ∙ ap (λ (m : ℕ). if c.args.table.now.shifts then m else 0) (c.from.ensures ∙ byte_is (eqb c.args.of.now.state (c.states-last.result - 1)) ∙ ap (λ (m : ℕ). if c.args.of.now.state == m then 1 else 0) last) in
        brings_in_line p plant c.args.of.now.state c.args.table.now d c.loop-cell.cell n c.first-first.result c.shifted_by-own.result c.if-cells-gt1.step c.shifted_by-own_step.result (omega (arith, c.args.of.now.equation, plant.one_each)) c.requires.table.shifts from.0 (omega (arith, c.loop-cell-test.true, count)) step own_step
        (brings p (sound_plant p plant) c.args.of.now.state c.args.table.now d c.first-first.result c.shifted_by-own.result c.args.indices.now c.args.of.now.equation c.requires.table (omega (arith, from.0.some, from.0.within)) from.1 c.first-first.ensures c.shifted_by-own.ensures)

    -- and its sums so far
    starts : (e : Option CellBox) → AreSumsAlong c.args.of.now.sampled.plant.now c.args.of.now.state (d + c.loop-cell.cell) (get_or c.loop-cell.bases c.loop-cell.cell e)
        (take (c.loop-cell.cell * c.vectors-inputs.result + c.vectors-inputs.result - c.loop-cell.cell * c.vectors-inputs.result) (drop (c.loop-cell.cell * c.vectors-inputs.result) c.loop-cell.boxes))
    starts e u input =
        subst₂ (λ (base b : Option CellBox). IsSumAlong c.args.of.now.sampled.plant.now c.args.of.now.state (d + c.loop-cell.cell) u base b)
        (sym (get_or_default c.loop-cell.bases c.loop-cell.cell e None short ∙ c.loop-cell.invariant.left_bases c.loop-cell.cell (omega arith))) (sym (row_was c.loop-cell.boxes row c.loop-cell.invariant.written u None input))
        (sums.each c.loop-cell.cell u (omega (arith, c.loop-cell-test.true, count)) input)

pub first-first-requires-clause-variables : goal.first-first-requires-clause-variables
first-first-requires-clause-variables c = variables_few c.args.of.now.sampled.plant.now c.args.of.now.sampled.within.plant c.args.table.now.digits.items c.requires.table.digits

pub first-first-requires-clause-fits : goal.first-first-requires-clause-fits
first-first-requires-clause-fits c =
    let p = c.args.of.now.sampled.plant.now in
    let plant = c.args.of.now.sampled.within.plant in
    let cells = c.requires.cells in
    first_fits p plant c.args.of.now.state c.args.table.now _ _ cells.0 c.requires.table
    (brings p (sound_plant p plant) c.args.of.now.state c.args.table.now cells.0 _ _ c.args.indices.now c.args.of.now.equation c.requires.table (omega (arith, cells.2.0.some, cells.2.0.within)) cells.2.1 refl refl)

pub step-step-requires : goal.step-step-requires
step-step-requires c =
    let p = c.args.of.now.sampled.plant.now in
    let plant = c.args.of.now.sampled.within.plant in
    let t = c.args.table.now in
    let cells = c.requires.cells in
    let more : 1 < cells.1 = omega (arith, c.if-cells-gt1.true, cell_count (length c.args.boxes.now) cells.1 c.vectors-inputs.result (vectors_of p.inputs) cells.3.one_each c.vectors-inputs.ensures.count c.vectors-inputs.ensures.some) in
    let next =
    brings_in_line p plant c.args.of.now.state t cells.0 1 cells.1 _ _ (step_of t (last_state p)) _ (omega (arith, c.args.of.now.equation, plant.one_each)) c.requires.table.shifts cells.2.0 more (λ several. refl) refl
    (brings p (sound_plant p plant) c.args.of.now.state t cells.0 _ _ c.args.indices.now c.args.of.now.equation c.requires.table (omega (arith, more, cells.2.0.within)) cells.2.1 refl refl)
    in
    omega (arith, first_fits p plant c.args.of.now.state t _ _ _ c.requires.table next, ap (λ (k : ℕ). step_of t (k - 1)) c.states-last.ensures)

-- the slot and the indices of a cell fit
few : (c : In-loop-cell) → (c.first-first.result + c.loop-cell.cell * c.if-cells-gt1.step < 2 ^ 32) × (c.shifted_by-own.result + c.loop-cell.cell * c.shifted_by-own_step.result < 2 ^ 32)
few c =
    let cells = c.requires.cells in
    let here = brought c cells.0 cells.1 cells.2 cells.3 in (
      first_fits c.args.of.now.sampled.plant.now c.args.of.now.sampled.within.plant c.args.of.now.state c.args.table.now _ _ _ c.requires.table here,
      omega (arith, own_few c.args.of.now.sampled.plant.now c.args.of.now.state c.args.table.now _ _ _ here, here.cell, c.args.of.now.sampled.within.cells),
    )

pub overflow_mul-slot : goal.overflow_mul-slot
overflow_mul-slot c = omega (arith, (few (goal.at.overflow_mul-slot c).In-loop-cell).0)

pub overflow_add-slot : goal.overflow_add-slot
overflow_add-slot c = omega (arith, (few (goal.at.overflow_add-slot c).In-loop-cell).0)

pub overflow_mul-own : goal.overflow_mul-own
overflow_mul-own c = omega (arith, (few (goal.at.overflow_mul-own c).In-loop-cell).1)

pub overflow_add-own : goal.overflow_add-own
overflow_add-own c = omega (arith, (few (goal.at.overflow_add-own c).In-loop-cell).1)

pub add_state-requires-clause-cell : goal.add_state-requires-clause-cell
add_state-requires-clause-cell c =
    let cells = c.requires.cells in
    let place = (goal.at.add_state-requires-clause-cell c).In-loop-cell in
    (cells.0 + c.loop-cell.cell, brought place cells.0 cells.1 cells.2 cells.3, starts place cells.0 cells.1 cells.2 cells.3 c.index-bases-cell.result)

pub loop-cell-preserved : goal.loop-cell-preserved
loop-cell-preserved c =
    let p = c.args.of.now.sampled.plant.now in
    let i : ℕ = c.args.of.now.state in
    let cells = c.requires.cells in
    let cell : ℕ = c.loop-cell.cell in
    let boxes = c.loop-cell.boxes in
    let bases = c.loop-cell.bases in
    let new = c.add_state.new.boxes in
    let base = c.add_state.result in
    let so_far = c.loop-cell.invariant in
    let place = (goal.at.loop-cell-preserved c).In-loop-cell in
    let Has : List (Option CellBox) → ℕ → ℕ → Option CellBox → Type 0 = HasTerm p i c.args.indices.now c.args.bases.now c.args.boxes.now in
    let kept =
    rows_likewise (vectors_of p.inputs) None (Has bases) (Has (set bases cell base)) cell c.args.boxes.now boxes (λ k u b lt was d n from sums.
    let apart : k ≢ cell = omega (arith, lt) in
    subst (λ (a : Option CellBox). IsSumAlong p (i + 1) (d + k) u a b) (sym (get_or-set_other bases cell k base None apart)) (was d n from sums)) so_far.written
    in
    record {
      bases = length-set bases cell base ∙ so_far.bases;
      written = row_written boxes (row place) kept new c.add_state.ensures.long (λ u input d n from sums.
          subst (λ (a : Option CellBox). IsSumAlong p (i + 1) (d + cell) u a (get_or new u None)) (sym (get_or-set_same bases cell base None (short place d n from sums)))
          (c.add_state.ensures.added (d + cell) (brought place d n from sums) (starts place d n from sums c.index-bases-cell.result) u input));
      left_bases = λ k from. let apart : k ≢ cell = omega (arith, from) in get_or-set_other bases cell k base None apart ∙ so_far.left_bases k (omega (arith, from));
    }

pub returns-clause-added : goal.returns-clause-added
returns-clause-added c = λ d n from sums.
    let so_far = c.loop-cell.invariant in
    let cells = cell_count (length c.args.boxes.now) n c.vectors-inputs.result _ sums.one_each c.vectors-inputs.ensures.count c.vectors-inputs.ensures.some in
    record {
      few = sums.few;
      one_each = so_far.written.long ∙ sums.one_each;
      each = λ k u lt input. so_far.written.each k u (omega (arith, lt, cells, c.loop-cell-test.false)) input d n from sums;
    }
