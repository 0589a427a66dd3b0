use Rattle.std.proofs.Common.{◌<◌, ◌∙◌, ap, nat_abs, arith, FitsSigned}
use Rattle.std.specs.Int.{w128, div_ceil}
use Rattle.std.proofs.lemmas.Int.{ints, to_z-of_z}
use Rattle.growth_bound.proofs.Ceilings.{ceiling-is}
use Rattle.growth_bound.proofs.bounds.rounded_up.Goals as goal

pub returns : goal.returns
returns c =
    let some : 0 < nat_abs c.args.k = omega (arith, ints) in
    let fits : FitsSigned w128 c.args.k = c.ranges.k in
    let divisor = simp to_z-of_z at c.unsigned_abs.ensures.value in
    c.div_ceil.ensures ∙ ap (div_ceil c.args.d) divisor ∙ ceiling-is c.args.d (nat_abs c.args.k) some
