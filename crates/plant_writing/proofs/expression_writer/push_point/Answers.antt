use Rattle.std.proofs.Common.{rules}
use Rattle.std.specs.Prelude.{FitsSigned}
use Rattle.std.specs.Int.{w128}
use Rattle.std.proofs.lemmas.Int.{to_z-of_z}
use Rattle.plant_writing.proofs.lemmas.WrittenLines.{point_parts}
use Rattle.plant_writing.proofs.expression_writer.push_point.Goals as goal

pub returns : goal.returns
returns c =
    let argument : FitsSigned w128 c.args.point.0 = search rules in
    let value : FitsSigned w128 c.args.point.1 = search rules in
    rw (c.in_ok-extend_from_slice-2.ensures.items, c.in_ok-push_number.ensures, c.in_ok-extend_from_slice.ensures.items, to_z-of_z w128 c.args.point.0 argument, to_z-of_z w128 c.args.point.1 value, point_parts c.args.text.now.items c.args.point)
    at c.push_number-2.ensures
