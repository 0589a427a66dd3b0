use Rattle.std.proofs.Common.{ℕ, ◌-◌, length, get_or, sym, ap, ◌∙◌, List, arith}
use Rattle.std.proofs.lemmas.List.{length-map}
use Rattle.grid_quantiser.specs.declared.axis.Axis.{Axis}
use Rattle.grid_quantiser.specs.Axes.{no_axis}
use Rattle.grid_quantiser.proofs.Counts.{each_count}
use Rattle.plant_record.specs.Description.{axis_of, axes_of}
use Rattle.plant_record.specs.ValueIndices.{value_count}
use Rattle.pair_boxes.proofs.PairDigits.{count_along, count_among}
use Rattle.pair_boxes.proofs.digits.count_of.Goals as goal

pub count-requires : goal.count-requires
count-requires c = omega (arith, c.if-variable-states.true, c.states-states.ensures, ap length c.grid.ensures, length-map c.args.p.now.states axis_of)

pub returns-then-variable-states : goal.returns-then-variable-states
returns-then-variable-states c =
    let p = c.args.p.now in
    c.count.ensures
    ∙ ap (λ (axes : List Axis). (get_or axes c.args.variable no_axis).count) c.grid.ensures
    ∙ sym (each_count (axes_of p) c.args.variable)
    ∙ count_along p c.args.variable (omega (arith, c.if-variable-states.true, c.states-states.ensures))

pub input_values-requires : goal.input_values-requires
input_values-requires c = omega (arith, c.requires, c.if-variable-states.false, c.states-states.ensures)

pub returns-else-variable-states : goal.returns-else-variable-states
returns-else-variable-states c =
    let p = c.args.p.now in
    c.input_values.ensures ∙ ap (λ (n : ℕ). value_count p.inputs (c.args.variable - n)) c.states-states.ensures ∙ count_among p c.args.variable (omega (arith, c.if-variable-states.false, c.states-states.ensures))
