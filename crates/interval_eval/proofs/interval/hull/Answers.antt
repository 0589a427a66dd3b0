use Rattle.std.proofs.Common.{rules, FitsSigned}
use Rattle.std.specs.Int.{w128}
use Rattle.std.proofs.lemmas.Int.{to_z-of_z}
use Rattle.interval_eval.proofs.interval.hull.Goals as goal

pub returns : goal.returns
returns c =
    let a_fits : FitsSigned w128 c.args.a = c.ranges.a in
    let b_fits : FitsSigned w128 c.args.b = c.ranges.b in
    let c_fits : FitsSigned w128 c.args.c = c.ranges.c in
    let d_fits : FitsSigned w128 c.args.d = c.ranges.d in
    let least_fits : FitsSigned w128 c.least.result = search rules in
    let greatest_fits : FitsSigned w128 c.greatest.result = search rules in
    let low = simp to_z-of_z at c.least.ensures in
    let high = simp to_z-of_z at c.greatest.ensures in
    let whole = simp to_z-of_z at c.within.ensures in
    simp (low, high) at whole
