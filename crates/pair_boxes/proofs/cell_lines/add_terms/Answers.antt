use Rattle.std.proofs.Common.{◌≡◌, ℕ, ◌<◌, ◌∙◌, All, List, length, None, get_or, sym, ap, subst}
use Rattle.pair_box.specs.Sums.{plus}
use Rattle.pair_boxes.proofs.BoxSums.{Fits28}
use Rattle.pair_boxes.proofs.ListedRows.{FindsTerms, found, first_within, inputs_within, terms_fit, boxes_fit, listed_added}
use Rattle.pair_boxes.proofs.cell_lines.add_terms.Goals as goal
use Rattle.pair_boxes.proofs.cell_lines.add_terms.Goals.{After-deref-in-Listed}

finds : (c : After-deref-in-Listed) → FindsTerms c.args.of.now.sampled.plant.now c.args.of.now.state c.args.table.now c.deref-in-Listed.result.now
finds c = record {
  limits = c.args.of.now.sampled.within;
  state = c.args.of.now.equation;
  held = c.requires.table;
  listed = c.in-Listed.terms;
  is = c.in-Listed.is;
  terms_are = c.deref-in-Listed.ensures.value;
}

pub slice_bounds-add_listed-count : goal.slice_bounds-add_listed-count
slice_bounds-add_listed-count c = let cell = c.requires.cell in first_within (finds (goal.at.slice_bounds-add_listed-count c).After-deref-in-Listed) c.args.first c.args.own cell.0 cell.2

pub slice_bounds-add_listed-start : goal.slice_bounds-add_listed-start
slice_bounds-add_listed-start c = let cell = c.requires.cell in first_within (finds (goal.at.slice_bounds-add_listed-start c).After-deref-in-Listed) c.args.first c.args.own cell.0 cell.2

pub add_listed-requires-clause-indices : goal.add_listed-requires-clause-indices
add_listed-requires-clause-indices c =
    let cell = c.requires.cell in
    let terms = finds (goal.at.add_listed-requires-clause-indices c).After-deref-in-Listed in
    subst (All (λ (n : ℕ). n < length (found terms c.args.first c.args.own))) (sym c.deref.ensures.value) (inputs_within terms c.args.first c.args.own cell.0 cell.2)

pub add_listed-requires-clause-terms : goal.add_listed-requires-clause-terms
add_listed-requires-clause-terms c =
    let cell = c.requires.cell in
    let terms = finds (goal.at.add_listed-requires-clause-terms c).After-deref-in-Listed in
    subst (All (λ (n : ℕ). Fits28 (get_or (found terms c.args.first c.args.own) n None))) (sym c.deref.ensures.value) (terms_fit terms c.args.first c.args.own cell.0 cell.2)

pub add_listed-requires-clause-boxes : goal.add_listed-requires-clause-boxes
add_listed-requires-clause-boxes c =
    let cell = c.requires.cell in
    let terms = finds (goal.at.add_listed-requires-clause-boxes c).After-deref-in-Listed in boxes_fit terms c.args.first c.args.own cell.0 cell.2 cell.1 c.args.boxes.now c.requires.one_each cell.3

pub returns-in-Listed-clause-added : goal.returns-in-Listed-clause-added
returns-in-Listed-clause-added c = λ d base brought before.
    let terms = finds (goal.at.returns-in-Listed-clause-added c).After-deref-in-Listed in
    let boxes = c.args.boxes.now in
    let each : (u : ℕ) → u < length boxes → get_or c.add_listed.new.boxes u None ≡ plus (get_or boxes u None) (get_or (found terms c.args.first c.args.own) (get_or c.args.table.now.inputs.items u 0) None) =
    λ u short. c.add_listed.ensures.each u short ∙ ap (λ (xs : List ℕ). plus (get_or boxes u None) (get_or (found terms c.args.first c.args.own) (get_or xs u 0) None)) c.deref.ensures.value
    in
    listed_added terms c.args.first c.args.own d brought base boxes c.requires.one_each before c.add_listed.new.boxes each
