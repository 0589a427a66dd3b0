use Rattle.std.proofs.Common.{◌≡◌, ℕ, ◌+◌, ◌-◌, ◌*◌, ◌/◌, ◌%◌, ◌<◌, ◌^◌, nat_abs, ap, ap₂, subst, ◌∙◌, arith, to_z, of_z}
use Rattle.std.specs.Prelude.{ℤ, ◌-ℤ◌, ◌<ℤ◌, SomeIff, FitsSigned}
use Rattle.std.specs.Int.{w128}
use Rattle.std.proofs.Math.Nat.{add-mul-div_left}
use Rattle.std.proofs.lemmas.Int.{ints, to_z-of_z}
use Rattle.std.proofs.lemmas.Nat.{div-add-mod'}
use Rattle.growth_bound.specs.Deviation.{ceiling_div, rise_of}
use Rattle.growth_bound.proofs.Division.{ceiling-is}
use Rattle.growth_bound.proofs.bounds.rise.Goals as goal

size_is : (n : ℕ) (y z : ℤ) → nat_abs y < 10 ^ 18 → nat_abs z < 10 ^ 18 → n ≡ nat_abs (to_z w128 (of_z w128 (to_z w128 (of_z w128 y) -ℤ to_z w128 (of_z w128 z)))) → n ≡ nat_abs (y -ℤ z)
size_is n y z hy hz e =
    let first : FitsSigned w128 y = omega (arith, ints, hy) in
    let second : FitsSigned w128 z = omega (arith, ints, hz) in
    let apart : FitsSigned w128 (y -ℤ z) = omega (arith, ints, hy, hz) in
    rw (to_z-of_z w128 y first, to_z-of_z w128 z second, to_z-of_z w128 (y -ℤ z) apart) at e

-- the whole product isn't needed
split : (h d n : ℕ) → 0 < n → h * (d / n) + ceiling_div (h * (d % n)) n ≡ ceiling_div (h * d) n
split h d n some =
    let product : h * (d / n * n + d % n) ≡ h * d = ap (λ (m : ℕ). h * m) (div-add-mod' d n) in
    let whole : (h * (d % n) + (n - 1)) + n * (h * (d / n)) ≡ h * d + (n - 1) = omega (arith, product) in
    let parts = add-mul-div_left (h * (d % n) + (n - 1)) (h * (d / n)) some in
    omega (arith, parts, ap (λ (m : ℕ). m / n) whole)

some_run : (p q : ℤ × ℤ) (n : ℕ) → p.0 <ℤ q.0 → n ≡ nat_abs (q.0 -ℤ p.0) → 0 < n
some_run p q n rises is = omega (arith, ints, rises, is)

pub returns-in_err-whole : goal.returns-in_err-whole
returns-in_err-whole c =
    let p = c.args.p in
    let q = c.args.q in
    let d : ℕ = c.args.d in
    let n : ℕ = c.unsigned_abs-run.result in
    let h : ℕ = c.unsigned_abs-height.result in
    let run = size_is n q.0 p.0 c.requires.to.0 c.requires.from.0 c.unsigned_abs-run.ensures.value in
    let height = size_is h q.1 p.1 c.requires.to.1 c.requires.from.1 c.unsigned_abs-height.ensures.value in
    let is : h * (d / n) + ceiling_div (h * (d % n)) n ≡ rise_of p q d = split h d n (some_run p q n c.requires.rises run) ∙ ap₂ (λ (m k : ℕ). ceiling_div (m * d) k) height run in
    rw c.from_residual.ensures (λ (fits : rise_of p q d < 2 ^ 127). c.in_err-whole.ensures (omega (arith, fits, is)))

pub returns : goal.returns
returns c =
    let p = c.args.p in
    let q = c.args.q in
    let d : ℕ = c.args.d in
    let n : ℕ = c.unsigned_abs-run.result in
    let h : ℕ = c.unsigned_abs-height.result in
    let run = size_is n q.0 p.0 c.requires.to.0 c.requires.from.0 c.unsigned_abs-run.ensures.value in
    let height = size_is h q.1 p.1 c.requires.to.1 c.requires.from.1 c.unsigned_abs-height.ensures.value in
    let some = some_run p q n c.requires.rises run in
    let rest : c.div_ceil-rest.result ≡ ceiling_div (h * (d % n)) n = c.div_ceil-rest.ensures ∙ ceiling-is (h * (d % n)) n some in
    let is : c.in_ok-whole.whole + c.div_ceil-rest.result ≡ rise_of p q d = ap₂ (λ (m k : ℕ). m + k) c.in_ok-whole.ensures.1 rest ∙ split h d n some ∙ ap₂ (λ (m k : ℕ). ceiling_div (m * d) k) height run in
    subst (λ (m : ℕ). SomeIff c.sum.result (m < 2 ^ 127) m) is c.sum.ensures
