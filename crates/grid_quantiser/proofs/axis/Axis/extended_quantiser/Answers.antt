use Rattle.std.proofs.Common.{◌≡◌, ◌∙◌, ap, nat_abs, ℤ, FitsSigned, rules}
use Rattle.std.specs.Int.{w128}
use Rattle.std.proofs.lemmas.Int.{to_z-of_z}
use Rattle.grid_quantiser.proofs.ExtendedAxes.{between_ends, has_ends, low_held, end_held}
use Rattle.grid_quantiser.proofs.axis.Axis.extended_quantiser.Goals as goal

pub invariant_of-result : goal.invariant_of-result
invariant_of-result c =
    let a = c.args.self.now in
    let axis = c.requires.axis in
    let end = c.start-end.result in
    let width : c.new.result ≡ nat_abs a.width = c.new.ensures ∙ ap (λ (z : ℤ). nat_abs z) (to_z-of_z w128 a.width (let fits : FitsSigned w128 a.width = search rules in fits)) in
    rw (low_held a axis end c.start-end.ensures, end_held a axis end c.start-end.ensures) (has_ends a axis c.new.result width c.requires.few)

pub returns : goal.returns
returns c =
    let a = c.args.self.now in
    let axis = c.requires.axis in
    let end = c.start-end.result in
    let width : c.new.result ≡ nat_abs a.width = c.new.ensures ∙ ap (λ (z : ℤ). nat_abs z) (to_z-of_z w128 a.width (let fits : FitsSigned w128 a.width = search rules in fits)) in
    rw (low_held a axis end c.start-end.ensures, end_held a axis end c.start-end.ensures) (between_ends a axis c.new.result width)
