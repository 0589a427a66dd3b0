use Rattle.std.proofs.Common.{◌≡◌, ◌-◌, suc, arith}
use Rattle.expression_reading.specs.inside.ExpressionReading.{negated}
use Rattle.expression_reading.proofs.expression.negated.Goals as goal

pub loop-signs-preserved : goal.loop-signs-preserved
unfolding negated
loop-signs-preserved c =
    let is : c.loop-signs.signs ≡ suc (c.loop-signs.signs - 1) = omega arith in
    rw (is, c.in_ok-factor.ensures) at c.loop-signs.invariant
