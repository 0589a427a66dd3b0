use Rattle.std.proofs.Common.{length, get_or, sym, ap, ◌∙◌}
use Rattle.std.proofs.lemmas.List.{get_or-take}
use Rattle.plant_record.proofs.plant.Plant.input_values.Goals as goal

pub returns : goal.returns
returns c =
    let inputs = c.self.inside.parts.variables.inputs.items in
    let within = rw (← c.self.view_is) at c.requires in
    rw (← c.self.view_is)
    (sym (get_or-take (length inputs) c.self.inside.counts c.args.variable 0 within) ∙ ap (λ counts. get_or counts c.args.variable 0) c.self.invariant.counts_are)
