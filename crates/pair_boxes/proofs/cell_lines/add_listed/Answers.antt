use Rattle.std.proofs.Common.{◌≡◌, ◌<◌, ◌∙◌, Option, None, length, get_or, sym, ap, subst, arith}
use Rattle.std.proofs.lemmas.List.{get_or_default}
use Rattle.grid_quantiser.specs.declared.boxes.CellBox.{CellBox}
use Rattle.pair_box.specs.Sums.{plus}
use Rattle.pair_boxes.proofs.BoxSums.{Fits28}
use Rattle.pair_boxes.proofs.ChangedElements.{none_changed, next_was, next_changed}
use Rattle.pair_boxes.proofs.cell_lines.add_listed.Goals as goal
use Rattle.pair_boxes.proofs.cell_lines.add_listed.Goals.{In-loop-i}

pub loop-i-init : goal.loop-i-init
loop-i-init c = none_changed None c.args.boxes.now _ _

pub plus-requires-clause-one : goal.plus-requires-clause-one
plus-requires-clause-one c =
    let short : c.loop-i.i < length c.loop-i.boxes = omega arith in
    let was = next_was None c.args.boxes.now (λ u v same. same) c.loop-i.i c.loop-i.boxes c.loop-i.invariant short c.index-boxes-i.result c.index-boxes-i.is in
    subst Fits28 was (c.requires.boxes c.loop-i.i None (omega (arith, short, c.loop-i.invariant.long)))

-- the input's term
term : (c : In-loop-i) (x : Option CellBox) → x ≡ get_or c.args.terms.now (get_or c.args.inputs.now c.loop-i.i 0) x → get_or c.args.terms.now (get_or c.args.inputs.now c.loop-i.i 0) None ≡ x
term c x is = get_or_default c.args.terms.now (get_or c.args.inputs.now c.loop-i.i 0) None x (c.requires.indices c.loop-i.i 0 (omega (arith, c.loop-i-test.true, c.requires.one_each))) ∙ sym is

pub plus-requires-clause-other : goal.plus-requires-clause-other
plus-requires-clause-other c =
    subst Fits28 (term (goal.at.plus-requires-clause-other c).In-loop-i c.index-terms-inputs.result c.index-terms-inputs.is)
    (c.requires.terms c.loop-i.i 0 (omega (arith, c.loop-i-test.true, c.requires.one_each)))

pub loop-i-preserved : goal.loop-i-preserved
loop-i-preserved c =
    next_changed None c.args.boxes.now (λ u v same. same) c.loop-i.i c.loop-i.boxes c.loop-i.invariant (omega arith) c.index-boxes-i.result c.plus.result c.index-boxes-i.is
    (c.plus.ensures ∙ ap (plus c.index-boxes-i.result) (sym (term (goal.at.loop-i-preserved c).In-loop-i c.index-terms-inputs.result c.index-terms-inputs.is)))
