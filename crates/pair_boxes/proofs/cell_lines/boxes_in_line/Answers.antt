use Rattle.std.proofs.Common.{◌≡◌, ◌≢◌, ℕ, ◌+◌, ◌-◌, ◌*◌, ◌/◌, ◌<◌, ◌≤◌, ◌∙◌, Option, None, length, replicate, take, drop, ◌++◌, set, get_or, get_or-set_other, sym, ap, subst, subst₂, arith, rules}
use Rattle.std.proofs.lemmas.List.{places, length-set, length-take-le, get_or-take, get_or-replicate, get_or_append_left}
use Rattle.grid_quantiser.specs.declared.boxes.CellBox.{CellBox}
use Rattle.grid_quantiser.specs.ExtentBoxes.{one_cell}
use Rattle.plant_record.specs.Description.{vectors_of}
use Rattle.successor_box.specs.PairExtents.{index_in}
use Rattle.pair_boxes.specs.inside.Terms.{AreIndicesOf, IsSumAlong}
use Rattle.pair_boxes.specs.inside.CellLines.{last_state, line_length, AreCellsFrom, AreSumsOfCells}
use Rattle.pair_boxes.proofs.CellLineLists.{AreCellBoxes, cell_fits, cells_are, boxes_written, boxes_from}
use Rattle.pair_boxes.proofs.LineCells.{last_among, line_step, indices_in_line, further_in_line}
use Rattle.pair_boxes.proofs.WrittenRows.{AreRows, none_written, rows_between, rows_long, rows_wide, rows_were}
use Rattle.pair_boxes.proofs.cell_lines.boxes_in_line.Goals as goal
use Rattle.pair_boxes.proofs.cell_lines.boxes_in_line.Goals.{After-vectors-inputs, After-copy_first, In-loop-done, After-min-end}

-- ---- before the loop

module _ (c : After-vectors-inputs) where
  -- the boxes are those of the cells from the first on
  cells : AreCellBoxes c.args.sampled.now.plant.now c.args.c c.requires.line.0 c.vectors-inputs.result (length c.args.boxes.now)
  cells = record { limits = c.args.sampled.now.within; within = c.requires.line.2.within; long = c.requires.line.1; count = c.vectors-inputs.ensures.count; some = c.vectors-inputs.ensures.some }

  wide : c.vectors-inputs.result ≤ length c.args.boxes.now
  wide = omega (arith, (cell_fits cells 0 c.requires.line.2.some).1)

pub slice_bounds-add_early-end : goal.slice_bounds-add_early-end
slice_bounds-add_early-end c = wide (goal.at.slice_bounds-add_early-end c).After-vectors-inputs

pub slice_bounds-add_early-end-2 : goal.slice_bounds-add_early-end-2
slice_bounds-add_early-end-2 c = sym (length-take-le c.vectors-inputs.result c.args.boxes.now (wide (goal.at.slice_bounds-add_early-end-2 c).After-vectors-inputs))

pub add_early-early-requires-clause-one_each : goal.add_early-early-requires-clause-one_each
add_early-early-requires-clause-one_each c =
    length-take-le c.vectors-inputs.result c.args.boxes.now (wide (goal.at.add_early-early-requires-clause-one_each c).After-vectors-inputs) ∙ c.vectors-inputs.ensures.count

pub add_early-early-requires-clause-start : goal.add_early-early-requires-clause-start
add_early-early-requires-clause-start c = λ k d short.
    let fits = wide (goal.at.add_early-early-requires-clause-start c).After-vectors-inputs in
    let lt : k < c.vectors-inputs.result = omega (arith, short, length-take-le c.vectors-inputs.result c.args.boxes.now fits) in
    get_or-take c.vectors-inputs.result c.args.boxes.now k d lt ∙ c.requires.start k d (omega (arith, lt, fits))

pub add_early-early-requires-clause-cell : goal.add_early-early-requires-clause-cell
add_early-early-requires-clause-cell c = let row = c.requires.line.2 in (c.args.c, omega (arith, row.some, row.within), c.indices_of-indices.ensures)

module _ (c : After-copy_first) where
  kept : length (c.add_early-early.new.boxes ++ drop c.vectors-inputs.result c.args.boxes.now) ≡ length c.args.boxes.now
  kept = let fits = wide (goal.at.After-copy_first c).After-vectors-inputs in let early = c.add_early-early.ensures.long in search (rules, places)

  long : length c.copy_first.new.boxes ≡ c.requires.line.0 * vectors_of c.args.sampled.now.plant.now.inputs
  long = c.copy_first.ensures.long ∙ kept ∙ c.requires.line.1

  count : length c.copy_first.new.boxes / c.vectors-inputs.result ≡ c.requires.line.0
  count = ap (λ (n : ℕ). n / c.vectors-inputs.result) (c.copy_first.ensures.long ∙ kept) ∙ cells_are (cells (goal.at.After-copy_first c).After-vectors-inputs)

  -- each cell has what the first states bring
  early : (k u : ℕ) → k < c.requires.line.0 → u < vectors_of c.args.sampled.now.plant.now.inputs →
      IsSumAlong c.args.sampled.now.plant.now c.add_early-early.result (c.args.c + k) u one_cell (get_or c.copy_first.new.boxes (k * vectors_of c.args.sampled.now.plant.now.inputs + u) None)
  early k u lt input =
      let p = c.args.sampled.now.plant.now in
      let row = c.requires.line.2 in
      let v : ℕ = c.vectors-inputs.result in
      let first = c.add_early-early.new.boxes in
      let under : u < v = omega (arith, input, c.vectors-inputs.ensures.count) in
      let read : get_or c.copy_first.new.boxes (k * vectors_of p.inputs + u) None ≡ get_or first u None =
      ap (λ (m : ℕ). get_or c.copy_first.new.boxes (k * m + u) None) (sym c.vectors-inputs.ensures.count)
      ∙ c.copy_first.ensures.copied k u (omega (arith, lt, count, ap (λ (n : ℕ). n / v) c.copy_first.ensures.long)) under
      ∙ get_or_append_left first (drop v c.args.boxes.now) None u (let fits = wide (goal.at.After-copy_first c).After-vectors-inputs in omega (arith, under, c.add_early-early.ensures.long, length-take-le v c.args.boxes.now fits))
      in
      subst (IsSumAlong p c.add_early-early.result (c.args.c + k) u one_cell) (sym read)
      (c.add_early-early.ensures.along c.args.c (c.args.c + k) (omega (arith, row.some, row.within)) c.indices_of-indices.ensures (further_in_line p c.args.sampled.now.within.plant c.args.c k c.requires.line.0 row lt) u input)

pub loop-done-init : goal.loop-done-init
loop-done-init c = record { within = omega arith; nine = omega arith; indices = λ k within other. c.indices_of-indices.ensures k within; written = none_written _ None _ c.copy_first.new.boxes }

-- ---- a block of cells

module _ (c : In-loop-done) where
  begins : c.loop-done.done < c.requires.line.0
  begins = omega (arith, c.loop-done-test.true, count (goal.at.In-loop-done c).After-copy_first)

  first_is : get_or c.indices_of-indices.result (c.states.result - 1) 0 ≡ index_in c.args.sampled.now.plant.now c.args.c 0 (last_state c.args.sampled.now.plant.now)
  first_is =
      let p = c.args.sampled.now.plant.now in
      ap (λ (k : ℕ). get_or c.indices_of-indices.result (k - 1) 0) c.states.ensures ∙ c.indices_of-indices.ensures (last_state p) (last_among p c.args.sampled.now.within.plant)

module _ (c : After-min-end) where
  abbrev start : ℕ
  start = c.loop-done.done

  abbrev end : ℕ
  end = c.min-end.result

  abbrev place : In-loop-done
  place = (goal.at.After-min-end c).In-loop-done

  ends : (start < end) × (end ≤ c.requires.line.0)
  ends =
      let all = count (goal.at.After-min-end c).After-copy_first in
      (omega (arith, c.loop-done-test.true, c.min-end.ensures, c.cells_at_once-size.ensures.some), omega (arith, all, c.min-end.ensures))

  rows : AreRows (vectors_of c.args.sampled.now.plant.now.inputs) start end (start * c.vectors-inputs.result) (end * c.vectors-inputs.result - start * c.vectors-inputs.result) (length c.loop-done.boxes)
  rows = rows_between start end c.requires.line.0 c.vectors-inputs.result _ (length c.loop-done.boxes) ends.0 ends.1 c.vectors-inputs.ensures.count (c.loop-done.invariant.written.long ∙ long (goal.at.After-min-end c).After-copy_first)

  -- its cells
  from : AreCellsFrom c.args.sampled.now.plant.now (set c.loop-done.indices (c.states.result - 1) (get_or c.indices_of-indices.result (c.states.result - 1) 0 + start)) (c.args.c + start) (end - start)
  from =
      let p = c.args.sampled.now.plant.now in
      let plant = c.args.sampled.now.within.plant in
      let row = c.requires.line.2 in
      let so_far = c.loop-done.invariant in
      let first : ℕ = get_or c.indices_of-indices.result (c.states.result - 1) 0 in
      let step = line_step c.args.c start (line_length p) (omega (arith, row.row, ends.0, ends.1)) in (
        record { some = omega (arith, ends.0); within = omega (arith, row.within, ends.0, ends.1); row = omega (arith, step.1, row.row, ends.0, ends.1) },
        subst (λ (k : ℕ). AreIndicesOf p (c.args.c + start) (set c.loop-done.indices (k - 1) (first + start))) (sym c.states.ensures)
            (indices_in_line p plant c.args.c start c.requires.line.0 first c.loop-done.indices row (begins place) (omega (arith, so_far.nine, plant.states_bound)) (first_is place) so_far.indices),
      )

  sums : AreSumsOfCells c.args.sampled.now.plant.now c.add_early-early.result (c.args.c + start) (end - start) (replicate 32 one_cell) (take (end * c.vectors-inputs.result - start * c.vectors-inputs.result) (drop (start * c.vectors-inputs.result) c.loop-done.boxes))
  sums = record {
    few = omega (arith, c.min-end.ensures, c.cells_at_once-size.ensures.few);
    one_each = rows_long c.loop-done.boxes rows ∙ rows_wide c.loop-done.boxes rows;
    each = λ k u below input.
        let p = c.args.sampled.now.plant.now in
        let one : get_or (replicate 32 one_cell) k None ≡ one_cell = get_or-replicate 32 k one_cell None (omega (arith, below, c.min-end.ensures, c.cells_at_once-size.ensures.few)) in
        let here : c.args.c + (start + k) ≡ c.args.c + start + k = omega arith in
        subst₂ (λ (a b : Option CellBox). IsSumAlong p c.add_early-early.result (c.args.c + start + k) u a b) (sym one) (sym (rows_were c.loop-done.boxes rows c.loop-done.invariant.written k u None (omega (arith, below)) input))
        (subst (λ (cell : ℕ). IsSumAlong p c.add_early-early.result cell u one_cell (get_or c.copy_first.new.boxes ((start + k) * vectors_of p.inputs + u) None)) here (early (goal.at.After-min-end c).After-copy_first (start + k) u (omega (arith, below, ends.1)) input));
  }

pub add_late-requires-clause-cells : goal.add_late-requires-clause-cells
add_late-requires-clause-cells c =
    let at = (goal.at.add_late-requires-clause-cells c).After-min-end in
    (c.args.c + c.loop-done.done, c.min-end.result - c.loop-done.done, from at, sums at)

pub loop-done-preserved : goal.loop-done-preserved
loop-done-preserved c =
    let at = (goal.at.loop-done-preserved c).After-min-end in
    record {
      within = omega (arith, c.min-end.ensures);
      nine = length-set c.loop-done.indices (c.states.result - 1) _ ∙ c.loop-done.invariant.nine;
      indices = λ k short other.
          let apart : k ≢ c.states.result - 1 = omega (arith, other, ap (λ (k : ℕ). k - 1) c.states.ensures) in
          get_or-set_other c.loop-done.indices (c.states.result - 1) k _ 0 apart ∙ c.loop-done.invariant.indices k short other;
      written = boxes_written c.args.c (rows at) c.loop-done.invariant.written c.add_late.new.boxes c.add_late.ensures.long (c.add_late.ensures.each (c.args.c + c.loop-done.done) (c.min-end.result - c.loop-done.done) (from at) (sums at));
    }

pub returns-clause-each : goal.returns-clause-each
returns-clause-each c =
    let copied = (goal.at.returns-clause-each c).After-copy_first in
    boxes_from c.args.sampled.now.plant.now c.args.c c.requires.line.0 c.loop-done.done c.copy_first.new.boxes c.loop-done.boxes c.loop-done.invariant.written (long copied) (omega (arith, count copied, c.loop-done-test.false))
