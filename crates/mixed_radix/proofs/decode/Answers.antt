use Rattle.std.proofs.Common.{◌≡◌, ◌≢◌, ℕ, ◌+◌, ◌-◌, ◌*◌, ◌<◌, ◌≤◌, arith, ap, sym, ◌∙◌, get_or, get_or-set_same, get_or-set_other, set, length, List, inl, inr}
use Rattle.std.proofs.lemmas.Bool.{cases_lt}
use Rattle.std.proofs.lemmas.List.{length-set}
use Rattle.std.proofs.lemmas.Nat.{div-add-mod', mod_below}
use Rattle.mixed_radix.specs.Radix.{AreDigits}
use Rattle.mixed_radix.proofs.Steps.{joined, some_count, rest_step, whole_number}
use Rattle.mixed_radix.proofs.Numbers.{digit_after}
use Rattle.mixed_radix.proofs.decode.Goals as goal

pub split-quotient-requires : goal.split-quotient-requires
split-quotient-requires c = omega (arith, some_count c.args.counts.now (c.loop-i.i - 1) (omega arith) c.requires.some)

-- each digit from i on is below its count
below_more : (counts ds : List ℕ) (i left : ℕ) → i < length ds → left < get_or counts i 0 → ((k : ℕ) → i + 1 ≤ k → k < length counts → get_or ds k 0 < get_or counts k 0) →
    (k : ℕ) → i ≤ k → k < length counts → get_or (set ds i left) k 0 < get_or counts k 0
below_more counts ds i left short here later k from lt =
    elim (cases_lt i k) [
      | inl past ↦ let other : k ≢ i = omega (arith, past) in rw (get_or-set_other ds i k left 0 other) (later k (omega (arith, past)) lt)
      | inr not_past ↦
          let same : k ≡ i = omega (arith, not_past, from) in
          rw (same, get_or-set_same ds i left 0 short) here
    ]

pub loop-i-preserved : goal.loop-i-preserved
loop-i-preserved c =
    let counts = c.args.counts.now in
    let ds = c.loop-i.digits in
    let i = c.loop-i.i - 1 in
    let so_far = c.loop-i.invariant in
    let parts = c.split-quotient.ensures in
    let back : i + 1 ≡ c.loop-i.i = omega arith in
    let within : i < length counts = omega arith in
    let short : i < length ds = omega (arith, so_far.six, c.requires.few) in
    let count : 0 < get_or counts i 0 = some_count counts i within c.requires.some in
    let is : c.split-quotient.result.0 * get_or counts i 0 + c.split-quotient.result.1 ≡ c.loop-i.rest =
    rw (parts.quotient, parts.left) (div-add-mod' c.loop-i.rest (get_or counts i 0))
    in
    record {
      whole = rest_step counts ds i c.loop-i.rest c.split-quotient.result.0 c.split-quotient.result.1 within short is ∙ ap (joined counts ds c.loop-i.rest) back ∙ so_far.whole;
      six = length-set ds i c.split-quotient.result.1 ∙ so_far.six;
      past = λ k le. let ne : k ≢ i = omega (arith, le, within) in get_or-set_other ds i k c.split-quotient.result.1 0 ne ∙ so_far.past k le;
      below = below_more counts ds i c.split-quotient.result.1 short (omega (arith, parts.left, mod_below c.loop-i.rest (get_or counts i 0) count))
          (λ k from lt. so_far.below k (omega (arith, from, back)) lt);
    }

pub returns-clause-each : goal.returns-clause-each
returns-clause-each c =
    let so_far = c.loop-i.invariant in
    let done : c.loop-i.i ≡ 0 = omega arith in
    let are : AreDigits c.args.counts.now c.loop-i.digits = record { long = omega (arith, so_far.six, c.requires.few); below = λ k lt. so_far.below k (omega (arith, done)) lt } in
    λ k within. sym (digit_after c.args.counts.now c.loop-i.digits c.args.number c.loop-i.rest k are (ap (joined c.args.counts.now c.loop-i.digits c.loop-i.rest) (sym done) ∙ so_far.whole) within)

pub returns-clause-digits : goal.returns-clause-digits
returns-clause-digits c = λ below.
    let so_far = c.loop-i.invariant in
    let done : c.loop-i.i ≡ 0 = omega arith in
    record {
      are = record { long = omega (arith, so_far.six, c.requires.few); below = λ k lt. so_far.below k (omega (arith, done)) lt };
      number_is = whole_number c.args.counts.now c.loop-i.digits c.loop-i.rest c.args.number below (ap (joined c.args.counts.now c.loop-i.digits c.loop-i.rest) (sym done) ∙ so_far.whole);
    }
