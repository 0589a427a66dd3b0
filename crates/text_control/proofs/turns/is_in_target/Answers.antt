use Rattle.std.proofs.Common.{◌≡◌, List, length, get_or, subst, sym, rules}
use Rattle.std.proofs.lemmas.List.{length-map}
use Rattle.std.proofs.lemmas.Option.{get_or_from_slice_get}
use Rattle.grid_quantiser.specs.declared.axis.Axis.{Axis}
use Rattle.grid_quantiser.specs.CellBoxes.{IsAtMost}
use Rattle.plant_record.specs.declared.aims.StateBox.{StateBox}
use Rattle.plant_record.specs.Description.{axis_of, axes_of}
use Rattle.plant_record.proofs.lemmas.OrderedBoxes.{boxes_ordered}
use Rattle.text_control.proofs.turns.is_in_target.Goals as goal

pub inside-requires-clause-ordered : goal.inside-requires-clause-ordered
inside-requires-clause-ordered c =
    let p = c.args.plant.now in
    let box : StateBox = record { low = c.target.result.0; high = c.target.result.1 } in
    let is : get_or p.targets c.args.turn box ≡ box = get_or_from_slice_get p.targets c.args.turn box box c.target.ensures in
    let each = boxes_ordered (length p.states) (axes_of p) p.targets (length-map p.states axis_of) c.requires.limits.plant.targets c.args.turn box (search rules) in
    subst (λ (axes : List Axis). IsAtMost axes box.low box.high) (sym c.grid.ensures) (subst (λ (b : StateBox). IsAtMost (axes_of p) b.low b.high) is each)
