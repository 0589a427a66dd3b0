use Rattle.std.proofs.Common.{◌≡◌, ◌≤◌, true, length, sym, ◌∙◌, arith}
use Rattle.expression_reading.specs.inside.ExpressionReading.{rises}
use Rattle.expression_reading.proofs.lemmas.RisingPoints.{curve_is}
use Rattle.expression_reading.proofs.points.curve_through.Goals as goal

pub new-requires : goal.new-requires
new-requires c =
    let points = c.args.points.now in
    let some : 2 ≤ length points = omega (arith, c.if-points-lt2.false) in
    let rising : rises points ≡ true = sym c.rises.ensures ∙ c.if-not-rises.false in
    curve_is points some c.requires.few rising c.requires.short
