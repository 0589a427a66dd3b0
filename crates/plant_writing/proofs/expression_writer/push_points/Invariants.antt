use Rattle.std.proofs.Common.{◌≡◌, ◌++◌, take}
use Rattle.std.specs.List.{flat_map}
use Rattle.plant_writing.specs.ExpressionText.{point_text}
use Rattle.plant_writing.proofs.expression_writer.push_points.Given as goal

abbrev pub invariant-loop-point : goal.invariant-loop-point
invariant-loop-point l = l.text.items ≡ l.fn.text.items ++ flat_map point_text (take l.point-index l.points)
