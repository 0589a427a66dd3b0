-- The reciprocal of a divisor.
use Rattle.std.specs.Prelude.{◌≡◌, ℕ, ◌/◌, ◌-◌, ◌^◌, ◌<◌, ◌≤◌}
use Rattle.std.proofs.Common.{sym}
use Rattle.base.specs.declared.divisor.Divisor.TheInside.{Inside}

-- how often a number goes into the greatest one of 64 bits
abbrev pub reciprocal_of : ℕ → ℕ
reciprocal_of by = (2 ^ 64 - 1) / by

-- a divisor lies between 1 and 2^63, and has its reciprocal
abbrev pub IsReady : ℕ → ℕ → Type 0
IsReady by reciprocal = (1 ≤ by) × (by < 2 ^ 63) × (reciprocal ≡ reciprocal_of by)

pub ready : (d : Inside) → IsReady d.by d.reciprocal → ◌≡◌ {A = Inside} (record { by = d.by; reciprocal = reciprocal_of d.by }) d
ready d kept = λ i. record { by = d.by; reciprocal = sym kept.2 i }
