use Rattle.std.proofs.Common.{arith}
use Rattle.plant_text.specs.CanonicalFronts.{IsFirstRefusedAtFront}
use Rattle.controller_table.proofs.RefusedPlant.{line_bound}
use Rattle.controller_table.proofs.text_reader.take_plant.Goals as goal

pub map_err-requires : goal.map_err-requires
map_err-requires c = λ e failed line is.
    let refused = rw (failed, is) at c.read_front.ensures.refused in
    let first : IsFirstRefusedAtFront c.args.bytes.now line = refused (λ m. (let h = m in cc)) in
    omega (arith, line_bound c.args.bytes.now line first, c.requires)
