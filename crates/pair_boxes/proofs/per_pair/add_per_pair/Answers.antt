use Rattle.std.proofs.Common.{◌≡◌, ◌≢◌, ℕ, ◌+◌, ◌-◌, ◌*◌, ◌/◌, ◌<◌, ◌∙◌, List, Option, Some, None, Bor, length, get_or, below_more, refl, sym, ap, subst, arith}
use Rattle.std.specs.Prelude.{IfSome}
use Rattle.std.specs.Option.{option_copied}
use Rattle.successor_box.specs.declared.additive.AdditiveLine.{AdditiveLine}
use Rattle.successor_box.specs.AdditiveInputs.{IsAdditiveAt}
use Rattle.grid_quantiser.specs.declared.boxes.CellBox.{CellBox}
use Rattle.grid_quantiser.specs.declared.extents.Extent.{Extent}
use Rattle.std.proofs.lemmas.List.{length-take-le}
use Rattle.plant_record.specs.Description.{Description, vectors_of}
use Rattle.successor_box.specs.CellLines.{AreCellsOn, LiesInGrid, HaveCentresOf, AreCentresOf, HoldExtentsAtCentres}
use Rattle.successor_box.proofs.AdditiveInputs.{additive_at}
use Rattle.pair_boxes.specs.inside.CellLines.{last_state, AreCellsFrom, AreExtentsUnder}
use Rattle.pair_box.specs.Sums.{plus}
use Rattle.pair_boxes.specs.inside.Terms.{IsTermAt, IsSumAlong}
use Rattle.pair_boxes.proofs.BoxSums.{Fits28, sums_fit, rest_more}
use Rattle.pair_boxes.proofs.CellLineLists.{cell_count}
use Rattle.pair_boxes.proofs.LaneCells.{cell_in, cells_on, cells_in_grid, first_input, extents_here}
use Rattle.base.proofs.Products.{nothing_below}
use Rattle.pair_boxes.proofs.per_pair.add_per_pair.Goals as goal
use Rattle.pair_boxes.proofs.per_pair.add_per_pair.Goals.{In-loop-input, After-set_input}

-- there is an extent for each cell
one_each : (c : goal.In-loop-input) (n : ℕ) → length c.args.boxes.now ≡ n * vectors_of c.args.of.now.sampled.plant.now.inputs → length c.loop-input.extents ≡ n
one_each c n long = c.loop-input.invariant.cells ∙ cell_count (length c.args.boxes.now) n c.vectors-inputs.result (vectors_of c.args.of.now.sampled.plant.now.inputs) long c.vectors-inputs.ensures.count c.vectors-inputs.ensures.some

-- cells of a line with these indices, as many as the boxes are for
counted : (p : Description) (indices : List ℕ) (d n boxes inputs : ℕ) → boxes ≡ n * vectors_of p.inputs → inputs ≡ vectors_of p.inputs → 0 < inputs → AreCellsFrom p indices d n → AreCellsFrom p indices d (boxes / inputs)
counted p indices d n boxes inputs long count some = subst (AreCellsFrom p indices d) (sym (cell_count boxes n inputs (vectors_of p.inputs) long count some))

-- the cells in the lanes, from one with these indices on
on : (c : After-set_input) (d n : ℕ) → length c.args.boxes.now ≡ n * vectors_of c.args.of.now.sampled.plant.now.inputs → AreCellsFrom c.args.of.now.sampled.plant.now c.args.indices.now d n →
    AreCellsOn c.args.of.now.sampled.plant.now c.args.indices.now (last_state c.args.of.now.sampled.plant.now) (length c.args.boxes.now / c.vectors-inputs.result) (cell_in d (length c.args.boxes.now / c.vectors-inputs.result))
on c d n long from =
    let p = c.args.of.now.sampled.plant.now in
    let size : ℕ = length c.args.boxes.now / c.vectors-inputs.result in
    cells_on p c.args.of.now.sampled.within.plant c.args.indices.now d size (counted p c.args.indices.now d n (length c.args.boxes.now) c.vectors-inputs.result long c.vectors-inputs.ensures.count c.vectors-inputs.ensures.some from)

-- the line has their centres
centres : (c : After-set_input) (d n : ℕ) → length c.args.boxes.now ≡ n * vectors_of c.args.of.now.sampled.plant.now.inputs → AreCellsFrom c.args.of.now.sampled.plant.now c.args.indices.now d n →
    AreCentresOf c.args.of.now.sampled.plant.now (cell_in d (length c.args.boxes.now / c.vectors-inputs.result)) c.set_input.new.self
centres c d n long from = c.set_input.ensures.kept _ (c.loop-input.invariant.centres _ (on c d n long from))

-- and extents at these are theirs
found : (c : After-set_input) (d n : ℕ) → length c.args.boxes.now ≡ n * vectors_of c.args.of.now.sampled.plant.now.inputs → AreCellsFrom c.args.of.now.sampled.plant.now c.args.indices.now d n → (extents : List (Option Extent)) →
    length extents ≡ length c.loop-input.extents → HoldExtentsAtCentres c.args.of.now.sampled.plant.now c.set_input.new.self c.args.of.now.state extents → AreExtentsUnder c.args.of.now.sampled.plant.now d c.loop-input.input c.args.of.now.state extents
found c d n long from extents all held =
    let p = c.args.of.now.sampled.plant.now in
    let size : ℕ = length c.args.boxes.now / c.vectors-inputs.result in
    subst (λ (u : ℕ). AreExtentsUnder p d u c.args.of.now.state extents) c.set_input.ensures.input
    (extents_here p d size c.set_input.new.self.input c.args.of.now.state extents (all ∙ c.loop-input.invariant.cells) (held (cell_in d size) (centres c d n long from)))

pub extents_under-requires-clause-line : goal.extents_under-requires-clause-line
extents_under-requires-clause-line c = let cells = c.requires.cells.1 in (cell_in cells.0 (length c.args.boxes.now / c.vectors-inputs.result), centres (goal.at.extents_under-requires-clause-line c).After-set_input cells.0 cells.1 cells.3.one_each cells.2)

-- what holds of an additive line holds of it where it is borrowed
seen : (P : AdditiveLine → Type 0) (r : Option (Bor AdditiveLine)) → IfSome (option_copied r) P → IfSome r (λ a. P a.now)
seen P None holds = holds
seen P (Some a) holds = holds

pub extents_under-requires-clause-additive : goal.extents_under-requires-clause-additive
extents_under-requires-clause-additive c =
    let cells = c.requires.cells.1 in
    let here = (goal.at.extents_under-requires-clause-additive c).After-set_input in
    let at : AdditiveLine → Type 0 = IsAdditiveAt c.args.of.now.sampled.plant.now c.set_input.new.self c.args.of.now.state in
    seen at c.as_ref.result (subst (λ (o : Option AdditiveLine). IfSome o at) (sym c.as_ref.ensures.value)
    (additive_at c.args.of.now.sampled.plant.now c.set_input.new.self c.args.of.now.state _ (centres here cells.0 cells.1 cells.3.one_each cells.2) c.additive_line-additive.result (c.loop-input.invariant.additive _ (on here cells.0 cells.1 cells.3.one_each cells.2))))

pub extents_under-requires-clause-few : goal.extents_under-requires-clause-few
extents_under-requires-clause-few c = let cells = c.requires.cells.1 in omega (arith, one_each (goal.at.extents_under-requires-clause-few c).In-loop-input cells.1 cells.3.one_each, cells.3.few)

pub new-line-requires-clause-along : goal.new-line-requires-clause-along
new-line-requires-clause-along c = omega (arith, c.states.ensures, c.args.of.now.sampled.within.plant.some_state)

pub new-line-requires-clause-some : goal.new-line-requires-clause-some
new-line-requires-clause-some c =
    let cells = c.requires.cells.1 in
    omega (arith, cells.2.0.some, cell_count (length c.args.boxes.now) cells.1 c.vectors-inputs.result (vectors_of c.args.of.now.sampled.plant.now.inputs) cells.3.one_each c.vectors-inputs.ensures.count c.vectors-inputs.ensures.some)

pub new-line-requires-clause-within : goal.new-line-requires-clause-within
new-line-requires-clause-within c =
    let p = c.args.of.now.sampled.plant.now in
    let cells = c.requires.cells.1 in
    let n : ℕ = length c.args.boxes.now / c.vectors-inputs.result in
    subst (λ (k : ℕ). LiesInGrid p c.args.indices.now (k - 1) n) (sym c.states.ensures)
    (cells_in_grid p c.args.of.now.sampled.within.plant c.args.indices.now cells.0 n (counted p c.args.indices.now cells.0 cells.1 (length c.args.boxes.now) c.vectors-inputs.result cells.3.one_each c.vectors-inputs.ensures.count c.vectors-inputs.ensures.some cells.2))

pub new-line-requires-clause-input : goal.new-line-requires-clause-input
new-line-requires-clause-input c =
    let cells = c.requires.cells.1 in
    (0, first_input c.args.of.now.sampled.plant.now c.args.of.now.sampled.within.plant c.args.indices.now cells.0 cells.1 cells.2)

pub additive_line-additive-requires-clause-line : goal.additive_line-additive-requires-clause-line
additive_line-additive-requires-clause-line c =
    let p = c.args.of.now.sampled.plant.now in
    let cells = c.requires.cells.1 in
    let n : ℕ = length c.args.boxes.now / c.vectors-inputs.result in
    let here = counted p c.args.indices.now cells.0 cells.1 (length c.args.boxes.now) c.vectors-inputs.result cells.3.one_each c.vectors-inputs.ensures.count c.vectors-inputs.ensures.some cells.2 in
    (cell_in cells.0 n, subst (λ (k : ℕ). HaveCentresOf p c.args.indices.now (k - 1) n c.new-line.result) c.states.ensures c.new-line.ensures.cells (cell_in cells.0 n) (cells_on p c.args.of.now.sampled.within.plant c.args.indices.now cells.0 n here))

pub loop-input-init : goal.loop-input-init
loop-input-init c =
    let line : HaveCentresOf c.args.of.now.sampled.plant.now c.args.indices.now (last_state c.args.of.now.sampled.plant.now) (length c.args.boxes.now / c.vectors-inputs.result) c.new-line.result =
    subst (λ (k : ℕ). HaveCentresOf c.args.of.now.sampled.plant.now c.args.indices.now (k - 1) (length c.args.boxes.now / c.vectors-inputs.result) c.new-line.result) c.states.ensures c.new-line.ensures.cells in
    record {
      long = refl;
      cells = length-take-le (length c.args.boxes.now / c.vectors-inputs.result) _ (let cells = c.requires.cells.1 in omega (arith, cells.3.few, cell_count (length c.args.boxes.now) cells.1 c.vectors-inputs.result (vectors_of c.args.of.now.sampled.plant.now.inputs) cells.3.one_each c.vectors-inputs.ensures.count c.vectors-inputs.ensures.some));
      additive = λ cell on. c.additive_line-additive.ensures.line cell (line cell on);
      centres = λ cell on. c.additive_line-additive.ensures.kept cell (line cell on);
      added = λ bases d n from sums k u lt none. nothing_below u none;
      left = λ k u from short. refl;
    }

pub add_extents-requires-clause-extents : goal.add_extents-requires-clause-extents
add_extents-requires-clause-extents c =
    let cells = c.requires.cells.1 in
    (cells.0, found (goal.at.add_extents-requires-clause-extents c).After-set_input cells.0 cells.1 cells.3.one_each cells.2 c.extents_under.new.extents c.extents_under.ensures.long c.extents_under.ensures.each)

pub add_extents-requires-clause-one_each : goal.add_extents-requires-clause-one_each
add_extents-requires-clause-one_each c =
    let cells = c.requires.cells.1 in
    let count = one_each (goal.at.add_extents-requires-clause-one_each c).In-loop-input cells.1 cells.3.one_each in
    c.loop-input.invariant.long ∙ cells.3.one_each ∙ ap (λ (n : ℕ). n * vectors_of c.args.of.now.sampled.plant.now.inputs) (sym (c.extents_under.ensures.long ∙ count))

pub add_extents-requires-clause-boxes : goal.add_extents-requires-clause-boxes
add_extents-requires-clause-boxes c = λ k below.
    let p = c.args.of.now.sampled.plant.now in
    let v : ℕ = vectors_of p.inputs in
    let input : ℕ = c.loop-input.input in
    let cells = c.requires.cells.1 in
    let lt : k < cells.1 = omega (arith, below, c.extents_under.ensures.long, one_each (goal.at.add_extents-requires-clause-boxes c).In-loop-input cells.1 cells.3.one_each) in
    let within : input < v = omega (arith, c.loop-input-test.true, c.vectors-inputs.ensures.count) in
    subst Fits28 (sym (c.loop-input.invariant.left k input (omega arith) within))
    (sums_fit p c.args.of.now.sampled.within c.args.of.now.state _ input _ (get_or c.args.boxes.now (k * v + input) None) (omega (arith, c.args.of.now.equation)) (cells.3.each k input lt within)).1

pub loop-input-preserved : goal.loop-input-preserved
loop-input-preserved c =
    let p = c.args.of.now.sampled.plant.now in
    let v : ℕ = vectors_of p.inputs in
    let i : ℕ = c.args.of.now.state in
    let input : ℕ = c.loop-input.input in
    let so_far = c.loop-input.invariant in
    let new = c.add_extents.new.boxes in
    let within : input < v = omega (arith, c.loop-input-test.true, c.vectors-inputs.ensures.count) in
    record {
      long = c.add_extents.ensures.long ∙ so_far.long;
      cells = c.extents_under.ensures.long ∙ so_far.cells;
      additive = so_far.additive;
      centres = λ cell on. c.set_input.ensures.kept cell (so_far.centres cell on);
      added = λ bases d n from sums k u lt.
          let count = one_each (goal.at.loop-input-preserved c).In-loop-input n sums.one_each in
          let here = found (goal.at.loop-input-preserved c).After-set_input d n sums.one_each from c.extents_under.new.extents c.extents_under.ensures.long c.extents_under.ensures.each in
          let below : k < length c.extents_under.new.extents = omega (arith, lt, count, c.extents_under.ensures.long) in
          let change = c.add_extents.ensures.added k below in
          let term : IsTermAt p (d + k) input i change.0 = change.1 (d + k) input (here k below) in
          let more = rest_more p c.args.of.now.sampled.within i c.args.of.now.equation (d + k) input change.0 term (get_or bases k None) (get_or c.args.boxes.now (k * v + input) None) (sums.each k input lt within) in
          below_more (λ (u : ℕ). IsSumAlong p (i + 1) (d + k) u (get_or bases k None) (get_or new (k * v + u) None)) input
          (λ u earlier. let other : u ≢ input = omega (arith, earlier) in
          subst (IsSumAlong p (i + 1) (d + k) u (get_or bases k None)) (sym (c.add_extents.ensures.others k u (omega (arith, earlier, within)) other)) (so_far.added bases d n from sums k u lt earlier))
          (subst (IsSumAlong p (i + 1) (d + k) input (get_or bases k None)) (sym (change.2 ∙ ap (λ (b : Option CellBox). plus b change.0) (so_far.left k input (omega arith) within))) more)
          u;
      left = λ k u from short. let other : u ≢ input = omega (arith, from) in c.add_extents.ensures.others k u short other ∙ so_far.left k u (omega (arith, from)) short;
    }

pub returns-clause-added : goal.returns-clause-added
returns-clause-added c = λ bases d n from sums.
    let so_far = c.loop-input.invariant in
    record {
      few = sums.few;
      one_each = so_far.long ∙ sums.one_each;
      each = λ k u lt input. so_far.added bases d n from sums k u lt (omega (arith, input, c.loop-input-test.false, c.vectors-inputs.ensures.count));
    }
