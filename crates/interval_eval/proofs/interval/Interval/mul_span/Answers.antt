use Rattle.std.proofs.Common.{rules, FitsSigned}
use Rattle.std.specs.Int.{w128}
use Rattle.std.proofs.lemmas.Int.{to_z-of_z}
use Rattle.interval_eval.specs.Span.{EndsFit, mul_span}
use Rattle.interval_eval.proofs.Corners.{corners_fit}
use Rattle.interval_eval.proofs.interval.Interval.mul_span.Goals as goal

pub returns-in_err-third : goal.returns-in_err-third
returns-in_err-third c =
    let low : FitsSigned w128 c.args.other.lo = search rules in
    let high : FitsSigned w128 c.args.self.hi = search rules in
    let out = simp to_z-of_z at c.in_err-third.ensures in
    rw c.from_residual-in_err-third.ensures (λ (fits : EndsFit (mul_span c.args.self c.args.other)). out ((corners_fit c.args.self c.args.other fits).third))

pub returns-in_err-fourth : goal.returns-in_err-fourth
returns-in_err-fourth c =
    let low : FitsSigned w128 c.args.other.hi = search rules in
    let high : FitsSigned w128 c.args.self.hi = search rules in
    let out = simp to_z-of_z at c.in_err-fourth.ensures in
    rw c.from_residual-in_err-fourth.ensures (λ (fits : EndsFit (mul_span c.args.self c.args.other)). out ((corners_fit c.args.self c.args.other fits).fourth))

pub returns : goal.returns
returns c =
    let self_low : FitsSigned w128 c.args.self.lo = search rules in
    let self_high : FitsSigned w128 c.args.self.hi = search rules in
    let other_low : FitsSigned w128 c.args.other.lo = search rules in
    let other_high : FitsSigned w128 c.args.other.hi = search rules in
    let first_fits : FitsSigned w128 c.in_ok-first.first = search rules in
    let second_fits : FitsSigned w128 c.in_ok-second.second = search rules in
    let third_fits : FitsSigned w128 c.in_ok-third.third = search rules in
    let fourth_fits : FitsSigned w128 c.in_ok-fourth.fourth = search rules in
    let first = simp to_z-of_z at c.in_ok-first.ensures in
    let second = simp to_z-of_z at c.in_ok-second.ensures in
    let third = simp to_z-of_z at c.in_ok-third.ensures in
    let fourth = simp to_z-of_z at c.in_ok-fourth.ensures in
    let whole = simp to_z-of_z at c.hull.ensures in
    simp (first.1, second.1, third.1, fourth.1) at whole
