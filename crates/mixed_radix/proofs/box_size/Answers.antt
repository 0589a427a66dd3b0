use Rattle.std.proofs.Common.{◌≡◌, ℕ, ◌+◌, ◌-◌, ◌<◌, arith, subst, length}
use Rattle.mixed_radix.specs.Radix.{size}
use Rattle.mixed_radix.proofs.Steps.{some_count}
use Rattle.mixed_radix.proofs.Boxes.{IsCounted, counted_more, count_fits, all_counted}
use Rattle.mixed_radix.proofs.box_size.Goals as goal

pub split-quotient-requires : goal.split-quotient-requires
split-quotient-requires c = some_count c.args.counts.now (c.loop-k.k - 1) (omega arith) (omega (arith, c.requires.below))

pub loop-k-preserved : goal.loop-k-preserved
loop-k-preserved c =
    let counts = c.args.counts.now in
    let k : ℕ = c.loop-k.k - 1 in
    let back : c.loop-k.k ≡ k + 1 = omega arith in
    let within : k < length counts = omega arith in
    let some : 0 < size counts = omega (arith, c.requires.below) in
    counted_more counts c.args.distance k within some c.loop-k.rest c.loop-k.size c.split-quotient.result.0 c.split-quotient.result.1
    (subst (λ (j : ℕ). IsCounted counts c.args.distance j c.loop-k.rest c.loop-k.size) back c.loop-k.invariant) c.split-quotient.ensures.quotient c.split-quotient.ensures.left

pub overflow_mul-size : goal.overflow_mul-size
overflow_mul-size c =
    let counts = c.args.counts.now in
    let within : c.loop-k.k - 1 < length counts = omega arith in
    let more = loop-k-preserved c in
    omega (arith, c.requires.fits, more.count_is, count_fits counts c.args.distance (c.loop-k.k - 1) within (omega (arith, c.requires.below)))

pub returns : goal.returns
returns c =
    let done : c.loop-k.k ≡ 0 = omega arith in
    all_counted c.args.counts.now c.args.distance c.loop-k.rest c.loop-k.size c.requires.below (subst (λ (j : ℕ). IsCounted c.args.counts.now c.args.distance j c.loop-k.rest c.loop-k.size) done c.loop-k.invariant)
