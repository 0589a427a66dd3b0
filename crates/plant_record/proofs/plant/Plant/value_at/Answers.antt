use Rattle.std.proofs.Common.{◌<◌, length, get_or, sym, ap, ◌∙◌, pos, rules}
use Rattle.std.specs.Prelude.{FitsSigned}
use Rattle.std.specs.Int.{w128}
use Rattle.std.proofs.lemmas.Int.{to_z-of_z}
use Rattle.plant_record.specs.ValueIndices.{value_at}
use Rattle.plant_record.proofs.lemmas.ValueIndices.{values_read, value_by_index}
use Rattle.plant_record.proofs.plant.Plant.value_at.Goals as goal

pub returns-clause-vectors : goal.returns-clause-vectors
returns-clause-vectors c = λ u below is.
    let inputs = c.self.inside.parts.variables.inputs.items in
    let fits : FitsSigned w128 (get_or c.as_slice.result.now c.args.index (pos 0)) = search rules in
    let within : c.args.variable < length inputs = rw (← c.self.view_is) at c.requires.variable in
    rw (to_z-of_z w128 _ fits, c.as_slice.ensures, ← c.self.view_is)
    (values_read inputs c.args.variable c.args.index c.index.result.now within c.index.ensures
    ∙ ap (value_at inputs c.args.variable) (sym (rw (← c.self.view_is) at is))
    ∙ sym (value_by_index inputs c.args.variable u within (rw (← c.self.view_is) at below)))
