-- Absolute values and quotients.
use Rattle.std.proofs.Common.{◌≡◌, ℕ, zero, suc, ◌*◌, ◌/◌, ◌%◌, ◌<◌, ◌≤◌, refl, arith}
use Rattle.std.specs.Prelude.{ℤ, pos, negsuc, nat_abs, ◌+ℤ◌, ◌-ℤ◌, ◌*ℤ◌, ◌≤ℤ◌}
use Rattle.std.proofs.lemmas.Int.{ints}

-- a number of at least 0 is its absolute value
pub positive : (z : ℤ) → pos 0 ≤ℤ z → z ≡ pos (nat_abs z)
positive (pos n) h = refl
positive (negsuc n) h = absurd (omega (arith, ints))

-- a range that is divided into whole cells ends right past them
pub whole_end : (low high width d : ℤ) (n w : ℕ) → width ≡ pos w → d ≡ pos n → d ≡ (high -ℤ low) +ℤ pos 1 → 0 < w → n % w ≡ 0 → low +ℤ (width *ℤ pos (n / w)) ≡ high +ℤ pos 1
whole_end low high width d n w width-is d-is range some whole = rw width-is (omega (arith, ints, d-is, range))

some_quotient : (q n w : ℕ) → 0 < n → n ≡ w * q → 1 ≤ q
some_quotient zero n w n-some e = absurd (omega (arith, e))
some_quotient (suc q) n w n-some e = omega arith

pub some_count : (n w : ℕ) → 0 < n → 0 < w → n % w ≡ 0 → 1 ≤ n / w
some_count n w n-some w-some whole = some_quotient (n / w) n w n-some (omega arith)

pub some_divisor : (k : ℤ) → pos 1 ≤ℤ k → 1 ≤ nat_abs k
some_divisor (pos n) h = omega (arith, ints, h)
some_divisor (negsuc n) h = absurd (omega (arith, ints, h))
