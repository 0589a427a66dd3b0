use Rattle.std.proofs.Common.{◌≡◌, ℕ, ◌+◌, ◌*◌, ◌<◌, ◌≤◌, ◌∙◌, Option, None, Fits, w64, length, get_or, ap, subst, arith}
use Rattle.std.proofs.lemmas.Nat.{mul-le, row_fits, same_from_place}
use Rattle.grid_quantiser.specs.declared.boxes.CellBox.{CellBox}
use Rattle.plant_record.specs.Description.{vectors_of}
use Rattle.plant_record.proofs.lemmas.SoundPlants.{sound as sound_plant}
use Rattle.successor_box.proofs.Middles.{axis_at}
use Rattle.pair_boxes.proofs.BoxSums.{Fits28, term_fits}
use Rattle.pair_boxes.proofs.ChangedElements.{none_changed, next_was, next_changed}
use Rattle.pair_boxes.proofs.RelativeExtents.{extended_at}
use Rattle.pair_boxes.proofs.per_pair.add_extents.Goals as goal
use Rattle.pair_boxes.proofs.per_pair.add_extents.Goals.{In-loop-cell}

pub loop-cell-init : goal.loop-cell-init
loop-cell-init c = none_changed None c.args.boxes.now _ _

module _ (c : In-loop-cell) where
  abbrev at : ℕ → ℕ
  at k = k * vectors_of c.args.of.now.sampled.plant.now.inputs + c.args.input

  -- the position of the cell's box under the input
  place : (c.loop-cell.cell * c.vectors-inputs.result + c.args.input ≡ at c.loop-cell.cell) × (at c.loop-cell.cell < length c.loop-cell.boxes)
      × Fits w64 (c.loop-cell.cell * c.vectors-inputs.result)
      × Fits w64 (c.loop-cell.cell * c.vectors-inputs.result + c.args.input)
      × Fits w64 ((c.loop-cell.cell * c.vectors-inputs.result + c.args.input) * 8)
  place =
      let v : ℕ = vectors_of c.args.of.now.sampled.plant.now.inputs in
      let cell : ℕ = c.loop-cell.cell in
      let n : ℕ = length c.args.extents.now in
      let is : cell * c.vectors-inputs.result ≡ cell * v = ap (λ (m : ℕ). cell * m) c.vectors-inputs.ensures.count in
      let fits : cell * v + v ≤ n * v = row_fits cell v n v c.loop-cell-test.true (omega arith) in
      let few : n * v ≤ 32 * 4096 = mul-le n v 32 4096 c.requires.few c.args.of.now.sampled.within.vectors in
      (omega (arith, is), omega (arith, fits, c.requires.input, c.loop-cell.invariant.long, c.requires.one_each), omega (arith, is, fits, few), omega (arith, is, fits, few, c.requires.input), omega (arith, is, fits, few, c.requires.input))

  apart : (k j : ℕ) → at k ≡ at j → k ≡ j
  apart k j same = (same_from_place k c.args.input j c.args.input _ c.requires.input c.requires.input same).0

  was : (x : Option CellBox) → x ≡ get_or c.loop-cell.boxes (c.loop-cell.cell * c.vectors-inputs.result + c.args.input) x → get_or c.args.boxes.now (at c.loop-cell.cell) None ≡ x
  was x is = next_was None c.args.boxes.now apart c.loop-cell.cell c.loop-cell.boxes c.loop-cell.invariant place.1 x (is ∙ ap (λ (n : ℕ). get_or c.loop-cell.boxes n x) place.0)

pub term_of-requires-clause-indices : goal.term_of-requires-clause-indices
term_of-requires-clause-indices c =
    let p = c.args.of.now.sampled.plant.now in
    let sound = sound_plant p c.args.of.now.sampled.within.plant in
    (axis_at p sound c.args.of.now.state (omega (arith, c.args.of.now.equation, sound.one_each))).some_cell

pub term_of-requires-clause-extent : goal.term_of-requires-clause-extent
term_of-requires-clause-extent c =
    let p = c.args.of.now.sampled.plant.now in
    let cell : ℕ = c.loop-cell.cell in
    let from = c.requires.extents in
    extended_at p (sound_plant p c.args.of.now.sampled.within.plant) c.args.of.now.state c.args.of.now.equation (from.0 + cell) c.args.input 0 (get_or c.args.extents.now cell None) (from.1 cell c.loop-cell-test.true)

pub overflow_mul-at : goal.overflow_mul-at
overflow_mul-at c = (place c).2

pub overflow_add-at : goal.overflow_add-at
overflow_add-at c = (place c).3

pub offset_bounds-boxes-at : goal.offset_bounds-boxes-at
offset_bounds-boxes-at c = (place c).4

pub bounds-boxes-at : goal.bounds-boxes-at
bounds-boxes-at c = let here = place (goal.at.bounds-boxes-at c).In-loop-cell in omega (arith, here.0, here.1)

pub plus-requires-clause-one : goal.plus-requires-clause-one
plus-requires-clause-one c =
    subst Fits28 (was (goal.at.plus-requires-clause-one c).In-loop-cell c.index-boxes-at.result c.index-boxes-at.is) (c.requires.boxes c.loop-cell.cell c.loop-cell-test.true)

pub plus-requires-clause-other : goal.plus-requires-clause-other
plus-requires-clause-other c =
    let p = c.args.of.now.sampled.plant.now in
    let cell : ℕ = c.loop-cell.cell in
    let from = c.requires.extents in
    let term = c.term_of.ensures (from.0 + cell) c.args.input (from.1 cell c.loop-cell-test.true) in
    term_fits p c.args.of.now.sampled.within c.args.of.now.state c.args.of.now.equation (from.0 + cell) c.args.input c.term_of.result term

pub loop-cell-preserved : goal.loop-cell-preserved
loop-cell-preserved c =
    let here = (goal.at.loop-cell-preserved c).In-loop-cell in
    let cell : ℕ = c.loop-cell.cell in
    let boxes = c.loop-cell.boxes in
    let old : Option CellBox = c.index-boxes-at.result in
    let is = c.index-boxes-at.is ∙ ap (λ (n : ℕ). get_or boxes n old) (place here).0 in
    rw (place here).0
    (next_changed None c.args.boxes.now (apart here) cell boxes c.loop-cell.invariant (place here).1 old c.plus.result is (c.term_of.result, c.term_of.ensures, c.plus.ensures))

pub returns-clause-added : goal.returns-clause-added
returns-clause-added c = λ k lt. c.loop-cell.invariant.changed k (omega (arith, lt, c.loop-cell-test.false))

pub returns-clause-others : goal.returns-clause-others
returns-clause-others c = λ k w within other. c.loop-cell.invariant.left _ (λ j lt same. other (same_from_place k w j c.args.input _ within c.requires.input same).1)
