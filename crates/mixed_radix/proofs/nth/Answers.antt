use Rattle.std.proofs.Common.{◌≡◌, ℕ, ◌+◌, ◌-◌, ◌<◌, arith, subst, length}
use Rattle.mixed_radix.specs.Radix.{size}
use Rattle.mixed_radix.proofs.Steps.{some_count}
use Rattle.mixed_radix.proofs.Boxes.{IsFound, found_more, found_fits, all_found}
use Rattle.mixed_radix.proofs.nth.Goals as goal

pub split-quotient-requires : goal.split-quotient-requires
split-quotient-requires c = some_count c.args.counts.now (c.loop-k.k - 1) (omega arith) (omega (arith, c.requires.below))

pub loop-k-preserved : goal.loop-k-preserved
loop-k-preserved c =
    let counts = c.args.counts.now in
    let k : ℕ = c.loop-k.k - 1 in
    let back : c.loop-k.k ≡ k + 1 = omega arith in
    let within : k < length counts = omega arith in
    let some : 0 < size counts = omega (arith, c.requires.below) in
    found_more counts c.args.distance k within some c.args.i c.loop-k.stride c.loop-k.rest c.loop-k.left c.loop-k.nth c.split-quotient.result.0 c.split-quotient.result.1 c.split-carry.result.0 c.split-carry.result.1
    (subst (λ (j : ℕ). IsFound counts c.args.distance c.args.i j c.loop-k.stride c.loop-k.rest c.loop-k.left c.loop-k.nth) back c.loop-k.invariant)
    c.split-quotient.ensures.quotient c.split-quotient.ensures.left c.split-carry.ensures.quotient c.split-carry.ensures.left

pub overflow_add-nth : goal.overflow_add-nth
overflow_add-nth c =
    let within : c.loop-k.k - 1 < length c.args.counts.now = omega arith in
    omega (arith, c.requires.fits, (found_fits c.args.counts.now c.args.distance (c.loop-k.k - 1) within (omega (arith, c.requires.below)) c.args.i _ _ _ _ (loop-k-preserved c)).0)

pub overflow_mul-stride : goal.overflow_mul-stride
overflow_mul-stride c =
    let within : c.loop-k.k - 1 < length c.args.counts.now = omega arith in
    omega (arith, c.requires.fits, (found_fits c.args.counts.now c.args.distance (c.loop-k.k - 1) within (omega (arith, c.requires.below)) c.args.i _ _ _ _ (loop-k-preserved c)).1)

pub returns : goal.returns
returns c =
    let done : c.loop-k.k ≡ 0 = omega arith in
    all_found c.args.counts.now c.args.distance c.args.i c.loop-k.stride c.loop-k.rest c.loop-k.left c.loop-k.nth c.requires.below c.requires.within
    (subst (λ (j : ℕ). IsFound c.args.counts.now c.args.distance c.args.i j c.loop-k.stride c.loop-k.rest c.loop-k.left c.loop-k.nth) done c.loop-k.invariant)
