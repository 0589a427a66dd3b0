-- What holds of all devices, for the proofs of crates above.
use Rattle.std.proofs.Common.{inl, inr, ◌≡◌, ℕ, ◌-◌, ◌^◌, List, Result, Ok, Err, subst, arith}
use Rattle.std.specs.Prelude.{OnOk, OnErr}
use Rattle.std.proofs.lemmas.Bool.{cases_lt}
use Rattle.run_devices.specs.Devices.{next_count, Rose, Writing, GainsWhole, GainsPart, Reports}

-- a count to which one was added rose
pub rose_by_one : (before after : ℕ) → after ≡ next_count before → Rose before after
rose_by_one before after one = elim (cases_lt before (2 ^ 64 - 1)) [ inl lt ↦ inl (omega (arith, lt, one)) | inr le ↦ inr (omega (arith, le, one)) ]

-- a line is reported whose pieces were written
pub reports_by : {A E : Type 0} (r : Result A E) (sink : Writing) (pieces line : List ℕ) → pieces ≡ line → OnOk r (GainsWhole sink pieces) → OnErr r (GainsPart sink pieces) → Reports sink line
reports_by (Ok x) sink pieces line same whole part = inl (subst (GainsWhole sink) same whole)
reports_by (Err e) sink pieces line same whole part = inr (subst (GainsPart sink) same part)
