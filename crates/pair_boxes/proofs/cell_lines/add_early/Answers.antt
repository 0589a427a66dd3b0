use Rattle.std.proofs.Common.{◌≡◌, ℕ, ◌-◌, ◌<◌, ◌∙◌, None, length, get_or, refl, sym, ap, subst, arith}
use Rattle.std.specs.Prelude.{if◌then◌else◌}
use Rattle.std.proofs.lemmas.List.Elements.{All-get_or}
use Rattle.grid_quantiser.specs.Axes.{cells_of}
use Rattle.grid_quantiser.specs.ExtentBoxes.{one_cell}
use Rattle.plant_record.specs.Description.{axes_of}
use Rattle.plant_record.proofs.lemmas.SoundPlants.{sound as sound_plant}
use Rattle.pair_boxes.specs.inside.CellLines.{last_state, StaysAlongLines}
use Rattle.pair_boxes.specs.inside.Terms.{AreIndicesOf, first_in, Brings, IsSumAlong, AreSumsAlong, IsTermTableOf, AreTermsOf}
use Rattle.pair_boxes.proofs.BoxSums.{sum_start}
use Rattle.pair_boxes.proofs.LineCells.{brings_in_row}
use Rattle.pair_boxes.proofs.TermTables.{brings, variables_few, first_fits}
use Rattle.pair_boxes.proofs.cell_lines.add_early.Goals as goal
use Rattle.pair_boxes.proofs.cell_lines.add_early.Goals.{In-Table}

pub loop-state-init : goal.loop-state-init
loop-state-init c = record {
  long = refl;
  along = λ cell other below are row u input.
      let is = All-get_or (λ b. b ≡ one_cell) c.args.boxes.now u None (omega (arith, input, c.requires.one_each)) c.requires.start in
      subst (IsSumAlong c.args.sampled.now.plant.now 0 other u one_cell) (sym is) (sum_start c.args.sampled.now.plant.now other u);
}

-- the state has a table
held : (c : goal.In-Table) → IsTermTableOf c.args.sampled.now.plant.now c.loop-state.state c.in-Table.table
held c =
    let equation : c.loop-state.state < length c.args.sampled.now.plant.now.equations = omega (arith, c.loop-state-test.true, c.requires.tables.one_each) in
    subst (AreTermsOf c.args.sampled.now.plant.now c.loop-state.state) (sym c.index-tables-state.is ∙ c.in-Table.is) (c.requires.tables.each c.loop-state.state c.index-tables-state.result equation)

pub invariant_of-of : goal.invariant_of-of
invariant_of-of c = record { equation = omega (arith, c.loop-state-test.true, c.requires.tables.one_each); stride_is = (held (goal.at.invariant_of-of c).In-Table).stride }

-- what a cell of the indices brings to it
brought : (c : goal.In-Table) (cell first own : ℕ) → cell < cells_of (axes_of c.args.sampled.now.plant.now) → AreIndicesOf c.args.sampled.now.plant.now cell c.args.indices.now → first ≡ first_in c.in-Table.table c.args.indices.now →
    own ≡ (if c.in-Table.table.shifts then get_or c.args.indices.now c.loop-state.state 0 else 0) → Brings c.args.sampled.now.plant.now c.loop-state.state c.in-Table.table first own cell
brought c cell first own below are =
    brings c.args.sampled.now.plant.now (sound_plant c.args.sampled.now.plant.now c.args.sampled.now.within.plant) c.loop-state.state c.in-Table.table cell first own c.args.indices.now (omega (arith, c.loop-state-test.true, c.requires.tables.one_each)) (held c) below are

pub first-first-requires-clause-variables : goal.first-first-requires-clause-variables
first-first-requires-clause-variables c = variables_few c.args.sampled.now.plant.now c.args.sampled.now.within.plant c.in-Table.table.digits.items (held (goal.at.first-first-requires-clause-variables c).In-Table).digits

pub first-first-requires-clause-fits : goal.first-first-requires-clause-fits
first-first-requires-clause-fits c =
    let place = (goal.at.first-first-requires-clause-fits c).In-Table in
    let cell = c.requires.cell in
    first_fits c.args.sampled.now.plant.now c.args.sampled.now.within.plant c.loop-state.state c.in-Table.table _ _ cell.0 (held place) (brought place cell.0 _ _ cell.1 cell.2 refl refl)

pub add_terms-requires-clause-table : goal.add_terms-requires-clause-table
add_terms-requires-clause-table c = held (goal.at.add_terms-requires-clause-table c).In-Table

pub add_terms-requires-clause-cell : goal.add_terms-requires-clause-cell
add_terms-requires-clause-cell c =
    let cell = c.requires.cell in
    (cell.0, one_cell, brought (goal.at.add_terms-requires-clause-cell c).In-Table cell.0 c.first-first.result c.shifted_by-own.result cell.1 cell.2 c.first-first.ensures c.shifted_by-own.ensures, c.loop-state.invariant.along cell.0 cell.0 cell.1 cell.2 (cell.1, refl))

pub loop-state-preserved : goal.loop-state-preserved
loop-state-preserved c =
    let p = c.args.sampled.now.plant.now in
    let state : ℕ = c.loop-state.state in
    let t = c.in-Table.table in
    let plant = c.args.sampled.now.within.plant in
    let place = (goal.at.loop-state-preserved c).In-Table in
    let stays : StaysAlongLines (last_state p) state t = subst (λ (last : ℕ). StaysAlongLines last state t) (ap (λ (n : ℕ). n - 1) c.states-last.ensures) (c.stays_along_lines.ensures c.if-not-stays_along_lines.false) in
    record {
      long = c.add_terms.ensures.long ∙ c.loop-state.invariant.long;
      along = λ cell other below are row.
          c.add_terms.ensures.added other one_cell
          (brings_in_row p plant state t c.first-first.result c.shifted_by-own.result cell other (omega (arith, c.loop-state-test.true, c.requires.tables.one_each, plant.one_each)) (held place) stays row (brought place cell c.first-first.result c.shifted_by-own.result below are c.first-first.ensures c.shifted_by-own.ensures))
          (c.loop-state.invariant.along cell other below are row);
    }

pub returns-clause-along : goal.returns-clause-along
returns-clause-along c = λ cell other below are row.
    let all : c.loop-state.state ≡ length c.args.tables.now = omega (arith, c.loop-state-test.false, c.loop-state.auto.state-end) in
    subst (λ (n : ℕ). AreSumsAlong c.args.sampled.now.plant.now n other one_cell c.loop-state.boxes) all (c.loop-state.invariant.along cell other below are row)
