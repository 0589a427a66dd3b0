use Rattle.std.proofs.Common.{◌≡◌, ℕ, ◌+◌, ◌-◌, ◌*◌, ◌^◌, ◌<◌, ◌≤◌, ◌∙◌, List, None, length, get_or, ap, arith}
use Rattle.std.proofs.lemmas.Nat.{mod_below, row_fits}
use Rattle.grid_quantiser.specs.declared.axis.Axis.{Axis}
use Rattle.grid_quantiser.specs.Axes.{no_axis}
use Rattle.plant_record.specs.Description.{vectors_of}
use Rattle.pair_boxes.specs.inside.CellLines.{line_length, AreInLine}
use Rattle.pair_boxes.proofs.CellLineLists.{AreCellBoxes, some_line, cell_count, cells_are, boxes_few, cell_fits, line_piece, boxes_written, boxes_from}
use Rattle.pair_boxes.proofs.WrittenRows.{AreRows, none_written, rows_between, rows_long, rows_wide, part_was}
use Rattle.pair_boxes.proofs.pair_boxes.boxes_of_cells.Goals as goal
use Rattle.pair_boxes.proofs.pair_boxes.boxes_of_cells.Goals.{In-loop-done, After-min-end}

pub loop-done-init : goal.loop-done-init
loop-done-init c = record { within = omega arith; written = none_written _ None _ c.args.boxes.now }

module _ (c : In-loop-done) where
  -- the boxes are those of the cells from the first on
  cells : AreCellBoxes c.args.sampled.now.plant.now c.args.c c.requires.cells.0 c.vectors-inputs.result (length c.args.boxes.now)
  cells = record { limits = c.args.sampled.now.within; within = c.requires.cells.2; long = c.requires.cells.1; count = c.vectors-inputs.ensures.count; some = c.vectors-inputs.ensures.some }

  line_is : c.count-line.result ≡ line_length c.args.sampled.now.plant.now
  line_is =
      c.count-line.ensures
      ∙ ap (λ (k : ℕ). (get_or c.grid.result.now (k - 1) no_axis).count) c.states.ensures
      ∙ ap (λ (axes : List Axis). (get_or axes (length c.args.sampled.now.plant.now.states - 1) no_axis).count) c.grid.ensures

  line_some : 1 ≤ c.count-line.result
  line_some = omega (arith, line_is, some_line c.args.sampled.now.plant.now c.args.sampled.now.within)

  -- the next cell is one of them
  next : (c.args.c + c.loop-done.done < 2 ^ 20) × (c.loop-done.done * c.vectors-inputs.result < 2 ^ 23)
  next =
      let fits = cell_fits cells c.loop-done.done (omega (arith, c.loop-done-test.true, cells_are cells)) in
      (fits.0, omega (arith, fits.1, boxes_few cells))

pub overflow_add-c : goal.overflow_add-c
overflow_add-c c = omega (arith, (next (goal.at.overflow_add-c c).In-loop-done).0)

pub nonzero_rem-c : goal.nonzero_rem-c
nonzero_rem-c c = line_some (goal.at.nonzero_rem-c c).In-loop-done

pub overflow_sub-done : goal.overflow_sub-done
overflow_sub-done c = omega (arith, mod_below (c.args.c + c.loop-done.done) c.count-line.result (line_some (goal.at.overflow_sub-done c).In-loop-done))

module _ (c : After-min-end) where
  -- the cells of its line
  piece : (c.loop-done.done < c.min-end.result) × (c.min-end.result ≤ c.requires.cells.0) × AreInLine c.args.sampled.now.plant.now (c.args.c + c.loop-done.done) (c.min-end.result - c.loop-done.done)
  piece = line_piece (cells (goal.at.After-min-end c).In-loop-done) c.loop-done.done c.min-end.result c.count-line.result c.loop-done-test.true (line_is (goal.at.After-min-end c).In-loop-done) c.min-end.ensures

  rows : AreRows (vectors_of c.args.sampled.now.plant.now.inputs) c.loop-done.done c.min-end.result (c.loop-done.done * c.vectors-inputs.result) (c.min-end.result * c.vectors-inputs.result - c.loop-done.done * c.vectors-inputs.result) (length c.loop-done.boxes)
  rows = rows_between c.loop-done.done c.min-end.result c.requires.cells.0 c.vectors-inputs.result _ (length c.loop-done.boxes) piece.0 piece.1 c.vectors-inputs.ensures.count (c.loop-done.invariant.written.long ∙ c.requires.cells.1)

pub slice_bounds-boxes_in_line-count : goal.slice_bounds-boxes_in_line-count
slice_bounds-boxes_in_line-count c = omega (arith, row_fits c.loop-done.done c.vectors-inputs.result c.min-end.result c.vectors-inputs.result (piece c).0 (omega arith))

pub slice_bounds-boxes_in_line-start : goal.slice_bounds-boxes_in_line-start
slice_bounds-boxes_in_line-start c = let at = (goal.at.slice_bounds-boxes_in_line-start c).After-min-end in omega (arith, row_fits c.loop-done.done c.vectors-inputs.result c.min-end.result c.vectors-inputs.result (piece at).0 (omega arith))

pub boxes_in_line-requires-clause-line : goal.boxes_in_line-requires-clause-line
boxes_in_line-requires-clause-line c =
    let at = (goal.at.boxes_in_line-requires-clause-line c).After-min-end in
    (c.min-end.result - c.loop-done.done, rows_long c.loop-done.boxes (rows at) ∙ rows_wide c.loop-done.boxes (rows at), (piece at).2)

pub boxes_in_line-requires-clause-start : goal.boxes_in_line-requires-clause-start
boxes_in_line-requires-clause-start c = λ k d short.
    let here = rows (goal.at.boxes_in_line-requires-clause-start c).After-min-end in
    let boxes = c.loop-done.boxes in
    let lt : k < c.min-end.result * c.vectors-inputs.result - c.loop-done.done * c.vectors-inputs.result = omega (arith, short, rows_long boxes here) in
    part_was boxes here c.loop-done.invariant.written k d lt ∙ c.requires.start (c.loop-done.done * c.vectors-inputs.result + k) None (omega (arith, lt, here.within, c.loop-done.invariant.written.long))

pub loop-done-preserved : goal.loop-done-preserved
loop-done-preserved c =
    let at = (goal.at.loop-done-preserved c).After-min-end in
    record { within = omega (arith, (piece at).1, cells_are (cells (goal.at.loop-done-preserved c).In-loop-done)); written = boxes_written c.args.c (rows at) c.loop-done.invariant.written c.boxes_in_line.new.boxes c.boxes_in_line.ensures.long c.boxes_in_line.ensures.each }

pub loop-done-smaller : goal.loop-done-smaller
loop-done-smaller c = let row = piece (goal.at.loop-done-smaller c).After-min-end in omega (arith, row.0, row.1, cells_are (cells (goal.at.loop-done-smaller c).In-loop-done))

pub returns-clause-each : goal.returns-clause-each
returns-clause-each c =
    boxes_from c.args.sampled.now.plant.now c.args.c c.requires.cells.0 c.loop-done.done c.args.boxes.now c.loop-done.boxes c.loop-done.invariant.written c.requires.cells.1
    (omega (arith, c.loop-done-test.false, cell_count (length c.args.boxes.now) c.requires.cells.0 c.vectors-inputs.result _ c.requires.cells.1 c.vectors-inputs.ensures.count c.vectors-inputs.ensures.some))
