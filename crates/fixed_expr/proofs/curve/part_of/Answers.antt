use Rattle.std.proofs.Common.{◌≡◌, ◌<◌, ◌^◌, ◌*◌, nat_abs, arith, ap, refl, sym, ◌∙◌}
use Rattle.std.specs.Prelude.{ℤ, pos, negsuc, ◌*ℤ◌, ◌≤ℤ◌, FitsSigned}
use Rattle.std.specs.Int.{w64, w128, int_div_euclid}
use Rattle.std.proofs.lemmas.Int.{ints, to_z-of_z, fits_signed_mul}
use Rattle.fixed_expr.specs.DivExpr.{floor_div}
use Rattle.fixed_expr.proofs.curve.part_of.Goals as goal

narrow : (z : ℤ) → nat_abs z < 2 * 10 ^ 18 → FitsSigned w64 z
narrow z h = omega (arith, ints, h)

euclid_is : (z k : ℤ) → pos 1 ≤ℤ k → int_div_euclid z k ≡ floor_div z k
euclid_is (pos a) (pos b) some = refl
euclid_is (negsuc a) (pos b) some = refl
euclid_is _ _ some = absurd (omega (arith, ints, some))

pub returns-in-Some : goal.returns-in-Some
returns-in-Some c =
    let rise : ℤ = c.args.rise in
    let steps : ℤ = c.args.steps in
    let run : ℤ = c.args.run in
    let product = c.in-Some.product in
    let fits : FitsSigned w64 product = rw (sym c.in-Some.ensures.1) at c.in-Some.ensures.0 in
    let exact = rw (to_z-of_z w128 rise c.ranges.rise, to_z-of_z w128 steps c.ranges.steps, to_z-of_z w64 rise (narrow rise c.requires.rise), to_z-of_z w64 steps (narrow steps c.requires.steps)) at c.in-Some.ensures.1 in
    let quotient = rw (to_z-of_z w64 product fits, to_z-of_z w128 run c.ranges.run, to_z-of_z w64 run (narrow run c.requires.run)) at c.div_euclid.ensures in
    to_z-of_z w128 c.from.result (record { sfits = c.from.type_inv })
    ∙ c.from.ensures
    ∙ to_z-of_z w64 c.div_euclid.result (record { sfits = c.div_euclid.type_inv })
    ∙ quotient
    ∙ ap (λ (z : ℤ). int_div_euclid z run) exact
    ∙ euclid_is (rise *ℤ steps) run c.requires.some

pub returns-in-None : goal.returns-in-None
returns-in-None c =
    let rise : ℤ = c.args.rise in
    let steps : ℤ = c.args.steps in
    let run : ℤ = c.args.run in
    let fits : FitsSigned w128 (rise *ℤ steps) = fits_signed_mul w128 rise steps (2 * 10 ^ 18) (2 * 10 ^ 18) (omega (arith, c.requires.rise)) (omega (arith, c.requires.steps)) (omega arith) in
    let quotient = rw (to_z-of_z w128 rise c.ranges.rise, to_z-of_z w128 steps c.ranges.steps, to_z-of_z w128 run c.ranges.run, to_z-of_z w128 (rise *ℤ steps) fits) at c.div_euclid-in-None.ensures in
    to_z-of_z w128 c.div_euclid-in-None.result (record { sfits = c.div_euclid-in-None.type_inv }) ∙ quotient ∙ euclid_is (rise *ℤ steps) run c.requires.some
