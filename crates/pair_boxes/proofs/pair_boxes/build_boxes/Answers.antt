use Rattle.std.proofs.Common.{◌≡◌, ℕ, ◌+◌, ◌*◌, ◌/◌, ◌%◌, ◌∙◌, All, None, length, replicate, ap, subst, arith}
use Rattle.std.proofs.lemmas.List.{length-replicate, get_or-replicate}
use Rattle.std.proofs.lemmas.Nat.{row_fits}
use Rattle.grid_quantiser.specs.Axes.{cells_of}
use Rattle.grid_quantiser.specs.ExtentBoxes.{one_cell}
use Rattle.plant_record.specs.Description.{axes_of, vectors_of}
use Rattle.pair_box.specs.PlantBoxes.{pairs_of_plant, pair_of_plant}
use Rattle.pair_boxes.specs.CellsFrom.{AreBoxesFrom}
use Rattle.pair_boxes.proofs.IfOks.{IfOk-both}
use Rattle.pair_boxes.proofs.PairBoxes.{box_in_chunk, chunk_cells}
use Rattle.pair_boxes.proofs.pair_boxes.build_boxes.Goals as goal

-- each chunk is the boxes of some cells
pub by_chunks-requires-clause-accepts : goal.by_chunks-requires-clause-accepts
by_chunks-requires-clause-accepts g c κs within = λ start chunk here.
    let p = c.args.sampled.now.plant.now in
    let inputs : ℕ = c.vectors.result in
    let cells : c.cells-cells.result ≡ cells_of (axes_of p) = c.cells-cells.ensures.count ∙ ap cells_of c.grid.ensures in
    let all = replicate (c.cells-cells.result * inputs) one_cell in
    let long : length all ≡ c.cells-cells.result * inputs = length-replicate (c.cells-cells.result * inputs) one_cell in
    let pairs : length all ≡ cells_of (axes_of p) * inputs = long ∙ ap (λ (n : ℕ). n * inputs) cells in
    let whole =
    chunk_cells start (length chunk.now) c.cells_in_chunk.result inputs (cells_of (axes_of p)) c.vectors.ensures.some c.cells_in_chunk.ensures.some here.nonempty here.start_is_multiple
    (omega (arith, here.len, pairs)) (omega (arith, here.in_bounds, pairs))
    in
    let each : All (λ b. b ≡ one_cell) chunk.now =
    λ k d lt. here.elements k d lt ∙ get_or-replicate (c.cells-cells.result * inputs) (start + k) one_cell d (omega (arith, lt, here.in_bounds, long))
    in (rw c.as_slice-tables.ensures.value c.in_ok-tables.ensures, (c.vectors.ensures.count, (c.vectors.ensures.some, (whole, each))))

-- each box is that of its pair, since it is in the chunk that was made there
pub returns : goal.returns
returns g c =
    let p = c.args.sampled.now.plant.now in
    let inputs : ℕ = c.vectors.result in
    let m : ℕ = c.cells_in_chunk.result in
    let v : inputs ≡ vectors_of p.inputs = c.vectors.ensures.count in
    let long = length-replicate (c.cells-cells.result * inputs) one_cell in
    let pairs : c.cells-cells.result * inputs ≡ pairs_of_plant p = ap (λ (n : ℕ). n * inputs) (c.cells-cells.ensures.count ∙ ap cells_of c.grid.ensures) ∙ ap (λ (n : ℕ). cells_of (axes_of p) * n) v in
    IfOk-both c.by_chunks.result _ _ _ c.by_chunks.ensures.len c.by_chunks.ensures.by_index (λ boxes len by_index.
    record {
      one_each = len ∙ pairs;
      each = λ cell u within input.
          let found = (by_index (pair_of_plant p cell u) None (omega (arith, row_fits cell (vectors_of p.inputs) (cells_of (axes_of p)) (vectors_of p.inputs) within (omega arith), input, pairs, long))).1 in
          let multiple : found.start % (m * vectors_of p.inputs) ≡ 0 = subst (λ (n : ℕ). found.start % (m * n) ≡ 0) v found.argument_is.start_is_multiple in
          box_in_chunk p m found.start found.offset cell u found.after_call.now _ input multiple found.start_plus_offset (omega (arith, found.offset_in_chunk, found.call.0))
          (subst (λ (n : ℕ). AreBoxesFrom p (found.start / n) found.after_call.now) v found.call.1) found.new_element;
    })
