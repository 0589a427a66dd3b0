use Rattle.std.proofs.Common.{ℕ, ◌+◌, ◌-◌, ◌*◌, ◌<◌, ◌∙◌, None, length, get_or, sym, ap₂, subst, arith}
use Rattle.std.proofs.lemmas.List.{get_or_default}
use Rattle.plant_record.specs.Description.{vectors_of}
use Rattle.plant_record.proofs.lemmas.InputVectors.{some_vectors}
use Rattle.plant_record.proofs.lemmas.SoundPlants.{sound as sound_plant}
use Rattle.successor_box.specs.SuccessorBoxes.{IsBoxOf}
use Rattle.pair_box.specs.Sums.{plus}
use Rattle.pair_boxes.proofs.BoxSums.{Fits28, sums_fit, sum_all}
use Rattle.pair_boxes.proofs.CellLineLists.{cell_before, cell_count}
use Rattle.pair_boxes.proofs.WrittenRows.{AreRows, none_written, one_row, rows_long, rows_wide, row_was, row_written}
use Rattle.pair_boxes.proofs.cell_lines.add_bases.Goals as goal
use Rattle.pair_boxes.proofs.cell_lines.add_bases.Goals.{In-loop-cell}

pub loop-cell-init : goal.loop-cell-init
loop-cell-init c = none_written _ None _ c.args.boxes.now

-- the cell is one of them, and its boxes are among all
module _ (c : In-loop-cell) where
  lt : c.loop-cell.cell < c.requires.1
  lt = omega (arith, c.loop-cell-test.true, cell_count (length c.args.boxes.now) c.requires.1 c.vectors-inputs.result _ c.requires.2.one_each c.vectors-inputs.ensures.count c.vectors-inputs.ensures.some)

  row : AreRows (vectors_of c.args.sampled.now.plant.now.inputs) c.loop-cell.cell (c.loop-cell.cell + 1) (c.loop-cell.cell * c.vectors-inputs.result) (c.loop-cell.cell * c.vectors-inputs.result + c.vectors-inputs.result - c.loop-cell.cell * c.vectors-inputs.result) (length c.loop-cell.boxes)
  row = one_row c.loop-cell.cell c.requires.1 c.vectors-inputs.result _ (length c.loop-cell.boxes) lt c.vectors-inputs.ensures.count (c.loop-cell.invariant.long ∙ c.requires.2.one_each)

pub add_base-requires-clause-base : goal.add_base-requires-clause-base
add_base-requires-clause-base c =
    let p = c.args.sampled.now.plant.now in
    let cell : ℕ = c.loop-cell.cell in
    let among = lt (goal.at.add_base-requires-clause-base c).In-loop-cell in
    let short : cell < length c.args.bases.now = omega (arith, among, c.requires.2.few, c.type_inv.bases) in
    subst Fits28 (get_or_default c.args.bases.now cell None c.index-bases-cell.result short)
    (sums_fit p c.args.sampled.now.within (length p.equations) _ 0 _ _ (omega arith) (c.requires.2.each cell 0 among (some_vectors p.inputs c.args.sampled.now.within.plant.inputs))).0

pub add_base-requires-clause-boxes : goal.add_base-requires-clause-boxes
add_base-requires-clause-boxes c = λ u d short.
    let p = c.args.sampled.now.plant.now in
    let place = (goal.at.add_base-requires-clause-boxes c).In-loop-cell in
    let input : u < vectors_of p.inputs = omega (arith, short, rows_long c.loop-cell.boxes (row place), rows_wide c.loop-cell.boxes (row place)) in
    subst Fits28 (sym (row_was c.loop-cell.boxes (row place) c.loop-cell.invariant u d input))
    (sums_fit p c.args.sampled.now.within (length p.equations) _ u _ _ (omega arith) (c.requires.2.each c.loop-cell.cell u (lt place) input)).1

pub loop-cell-preserved : goal.loop-cell-preserved
loop-cell-preserved c =
    let place = (goal.at.loop-cell-preserved c).In-loop-cell in
    let boxes = c.loop-cell.boxes in
    let cell : ℕ = c.loop-cell.cell in
    let short : cell < length c.args.bases.now = omega (arith, lt place, c.requires.2.few, c.type_inv.bases) in
    row_written boxes (row place) c.loop-cell.invariant c.add_base.new.boxes c.add_base.ensures.long (λ u input.
    c.add_base.ensures.each u (omega (arith, input, rows_long boxes (row place), rows_wide boxes (row place)))
    ∙ ap₂ plus (get_or_default c.args.bases.now cell c.index-bases-cell.result None short) (row_was boxes (row place) c.loop-cell.invariant u None input))

pub returns-clause-each : goal.returns-clause-each
returns-clause-each c = λ d n sums k u input short.
    let p = c.args.sampled.now.plant.now in
    let so_far = c.loop-cell.invariant in
    let v : ℕ = vectors_of p.inputs in
    let cells = cell_count (length c.args.boxes.now) n c.vectors-inputs.result v sums.one_each c.vectors-inputs.ensures.count c.vectors-inputs.ensures.some in
    let lt : k < n = cell_before k n v u (omega (arith, short, so_far.long, sums.one_each)) in
    subst (IsBoxOf p (d + k) u) (sym (so_far.each k u (omega (arith, lt, cells, c.loop-cell-test.false)) input))
    (sum_all p (d + k) u (get_or c.args.bases.now k None) (get_or c.args.boxes.now (k * v + u) None) (sound_plant p c.args.sampled.now.within.plant) (sums.each k u lt input))
