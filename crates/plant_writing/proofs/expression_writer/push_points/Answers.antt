use Rattle.std.proofs.Common.{◌<◌, get_or, length, pos, sym, ◌∙◌}
use Rattle.std.proofs.lemmas.List.{append-nil, get_or_default}
use Rattle.std.specs.Prelude.{ℤ}
use Rattle.plant_writing.specs.ExpressionText.{point_text}
use Rattle.plant_writing.proofs.lemmas.WrittenLines.{pieces_more, pieces_all}
use Rattle.plant_writing.proofs.expression_writer.push_points.Goals as goal

pub loop-point-init : goal.loop-point-init
loop-point-init c = sym (append-nil c.args.text.now.items)

pub loop-point-preserved : goal.loop-point-preserved
loop-point-preserved c =
    let points = c.args.points.now in
    let i = c.loop-point.point-index in
    let point : ℤ × ℤ = get_or points i (pos 0, pos 0) in
    let within : i < length points = c.loop-point-test.true in
    rw (c.in_ok-push_point.ensures, c.loop-point.invariant) (pieces_more point_text c.args.text.now.items points i point within (get_or_default points i (pos 0, pos 0) point within))

pub returns : goal.returns
returns c = c.loop-point.invariant ∙ pieces_all point_text c.args.text.now.items c.args.points.now c.loop-point.point-index c.loop-point-test.false
