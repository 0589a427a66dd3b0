use Rattle.std.proofs.Common.{◌+◌, ◌<◌, ◌∙◌, ℕ, Option, None, get_or, sym, refl, subst, arith}
use Rattle.grid_quantiser.specs.declared.boxes.CellBox.{CellBox}
use Rattle.plant_record.specs.Description.{vectors_of}
use Rattle.pair_boxes.specs.inside.Terms.{IsSumAlong}
use Rattle.pair_boxes.proofs.BoxSums.{sums_fit, term_fits, base_more}
use Rattle.plant_record.proofs.lemmas.InputVectors.{some_vectors}
use Rattle.pair_boxes.proofs.TermTables.{none_brought}
use Rattle.pair_boxes.proofs.cell_lines.add_state.Goals as goal

pub term-requires-clause-cell : goal.term-requires-clause-cell
term-requires-clause-cell c = let cell = c.requires.cell in (cell.0, cell.1)

pub term-requires-clause-input : goal.term-requires-clause-input
term-requires-clause-input c = some_vectors c.args.of.now.sampled.plant.now.inputs c.args.of.now.sampled.within.plant.inputs

pub plus-requires-clause-one : goal.plus-requires-clause-one
plus-requires-clause-one c =
    let p = c.args.of.now.sampled.plant.now in
    let limits = c.args.of.now.sampled.within in
    (sums_fit p limits c.args.of.now.state _ 0 c.args.base _ (omega (arith, c.args.of.now.equation)) (c.requires.cell.2 0 (some_vectors p.inputs limits.plant.inputs))).0

pub plus-requires-clause-other : goal.plus-requires-clause-other
plus-requires-clause-other c =
    let p = c.args.of.now.sampled.plant.now in
    let limits = c.args.of.now.sampled.within in
    let cell = c.requires.cell in
    let some = some_vectors p.inputs limits.plant.inputs in
    term_fits p limits c.args.of.now.state c.args.of.now.equation cell.0 0 c.term.result (c.term.ensures cell.0 0 cell.1 some refl)

pub returns-clause-added : goal.returns-clause-added
returns-clause-added c = λ cell brought before u input.
    let p = c.args.of.now.sampled.plant.now in
    let t = c.args.table.now in
    let limits = c.args.of.now.sampled.within in
    let rest : Option CellBox = get_or c.args.boxes.now u None in
    let none = λ (v : ℕ) (among : v < vectors_of p.inputs). none_brought p c.args.of.now.state t v c.requires.table c.if-not-table.false among in
    let term = c.term.ensures cell u brought input (none u input ∙ sym (none 0 (some_vectors p.inputs limits.plant.inputs))) in
    subst (λ (b : Option CellBox). IsSumAlong p (c.args.of.now.state + 1) cell u b rest) (sym c.plus.ensures)
    (base_more p limits c.args.of.now.state c.args.of.now.equation cell u c.term.result term c.args.base rest (before u input))
