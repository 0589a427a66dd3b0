use Rattle.std.proofs.Common.{rules, arith}
use Rattle.std.specs.Prelude.{ℤ, pos, ◌+ℤ◌, ◌-ℤ◌, FitsSigned}
use Rattle.std.specs.Int.{w128}
use Rattle.std.proofs.lemmas.Int.{ints, to_z-of_z}
use Rattle.fixed_expr.specs.DivExpr.{floor_div}
use Rattle.successor_box.proofs.Ranges.{noise_at}
use Rattle.successor_box.proofs.noise_centres.noise_offset.Goals as goal

pub returns : goal.returns
returns c =
    let x : ℤ = c.noise_range-low.result.0 in
    let y : ℤ = c.noise_range-low.result.1 in
    let r = noise_at c.args.p.now.noises c.args.k c.noise_range-low.result c.requires.plant.plant.noises c.noise_range-low.ensures in
    let low : FitsSigned w128 x = search rules in
    let high : FitsSigned w128 y = search rules in
    let centre : FitsSigned w128 c.halfway-centre.result = search rules in
    let is = rw (to_z-of_z w128 _ low, to_z-of_z w128 _ high) at c.halfway-centre.ensures in
    let first : FitsSigned w128 (x -ℤ floor_div (x +ℤ y) (pos 2)) = omega (arith, ints, r.low, r.short) in
    let last : FitsSigned w128 (y -ℤ floor_div (x +ℤ y) (pos 2)) = omega (arith, ints, r.high, r.short) in
    rw (to_z-of_z w128 _ low, to_z-of_z w128 _ high, to_z-of_z w128 _ centre, is, to_z-of_z w128 _ first, to_z-of_z w128 _ last) r.offset
