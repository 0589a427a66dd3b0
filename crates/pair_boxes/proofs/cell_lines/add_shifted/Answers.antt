use Rattle.std.proofs.Common.{ℕ, ◌+◌, ◌<◌, Option, None, length, refl, sym, subst, arith}
use Rattle.grid_quantiser.specs.declared.boxes.CellBox.{CellBox}
use Rattle.plant_record.specs.Description.{vectors_of}
use Rattle.pair_boxes.specs.inside.Terms.{IsSumAlong}
use Rattle.pair_boxes.proofs.BoxSums.{sums_fit, term_fits, rest_more}
use Rattle.pair_boxes.proofs.ChangedElements.{none_changed, next_was, next_changed}
use Rattle.pair_boxes.proofs.cell_lines.add_shifted.Goals as goal
use Rattle.pair_boxes.proofs.cell_lines.add_shifted.Goals.{In-loop-input}

pub loop-input-init : goal.loop-input-init
loop-input-init c = none_changed None c.args.boxes.now _ _

pub term-term-requires-clause-cell : goal.term-term-requires-clause-cell
term-term-requires-clause-cell c = let cell = c.requires.cell in (cell.0, cell.2)

-- the input is one, and has a box
input : (c : In-loop-input) → (c.loop-input.input < vectors_of c.args.of.now.sampled.plant.now.inputs) × (c.loop-input.input < length c.loop-input.boxes)
input c = (omega (arith, c.loop-input-test.true, c.vectors-input-end.ensures.count), omega (arith, c.loop-input-test.true, c.vectors-input-end.ensures.count, c.loop-input.invariant.long, c.requires.one_each))

pub plus-requires-clause-one : goal.plus-requires-clause-one
plus-requires-clause-one c =
    let p = c.args.of.now.sampled.plant.now in
    let cell = c.requires.cell in
    let u : ℕ = c.loop-input.input in
    let here = input (goal.at.plus-requires-clause-one c).In-loop-input in
    let was = next_was None c.args.boxes.now (λ u v same. same) u c.loop-input.boxes c.loop-input.invariant here.1 c.index-boxes-input.result c.index-boxes-input.is in
    (sums_fit p c.args.of.now.sampled.within c.args.of.now.state cell.0 u cell.1 c.index-boxes-input.result (omega (arith, c.args.of.now.equation)) (subst (IsSumAlong p c.args.of.now.state cell.0 u cell.1) was (cell.3 u here.0))).1

pub plus-requires-clause-other : goal.plus-requires-clause-other
plus-requires-clause-other c =
    let p = c.args.of.now.sampled.plant.now in
    let cell = c.requires.cell in
    let u : ℕ = c.loop-input.input in
    let here = input (goal.at.plus-requires-clause-other c).In-loop-input in
    term_fits p c.args.of.now.sampled.within c.args.of.now.state c.args.of.now.equation cell.0 u c.term-term.result (c.term-term.ensures cell.0 u cell.2 here.0 refl)

pub loop-input-preserved : goal.loop-input-preserved
loop-input-preserved c =
    let p = c.args.of.now.sampled.plant.now in
    let i : ℕ = c.args.of.now.state in
    let u : ℕ = c.loop-input.input in
    let old : Option CellBox = c.index-boxes-input.result in
    let here = input (goal.at.loop-input-preserved c).In-loop-input in
    next_changed None c.args.boxes.now (λ u v same. same) u c.loop-input.boxes c.loop-input.invariant here.1 old c.plus.result c.index-boxes-input.is (λ cell base brought before.
    subst (IsSumAlong p (i + 1) cell u base) (sym c.plus.ensures)
    (rest_more p c.args.of.now.sampled.within i c.args.of.now.equation cell u c.term-term.result (c.term-term.ensures cell u brought here.0 refl) base old before))

pub returns-clause-added : goal.returns-clause-added
returns-clause-added c = λ cell base brought before u input. c.loop-input.invariant.changed u (omega (arith, input, c.loop-input-test.false, c.vectors-input-end.ensures.count)) cell base brought (before u input)
