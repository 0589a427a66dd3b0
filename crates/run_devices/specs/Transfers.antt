-- What reading a source to its end does, and writing a whole text to a sink.
use Rattle.std.specs.Prelude.{◌≡◌, ℕ, List, take, drop, Option, Some, None, Result, OnOk, IfErr}
use Rattle.std.specs.List.{flat_map}
use Rattle.std.specs.Borrow.{Bor}
use Rattle.run_devices.specs.declared.transfer.WriteFault.{WriteFault}
use Rattle.run_devices.specs.declared.transfer.WriteFault.TheVariants.{Device, Memory}
use Rattle.run_devices.specs.Devices.{Writing, GainsWhole, GainsPart}

-- where the source tells its bytes, the first of them up to a limit are these, and the rest is left
abbrev pub ReadUpTo : Option (List ℕ) → Option (List ℕ) → ℕ → List ℕ → Type 0
ReadUpTo None after most bytes = Unit {0}
ReadUpTo (Some told) after most bytes = (bytes ≡ take most told) × (after ≡ Some (drop most told))

-- The sink has gained nothing, and counted no fault.
pub record IsUntouched (sink : Writing) : Type 0 where
  pub nothing : sink.after ≡ sink.before
  pub no_fault : sink.faults_after ≡ sink.faults_before

-- why a text isn't written whole: a write failed within it, or there was no memory before it
abbrev pub StopsBy : WriteFault → Writing → List ℕ → Type 0
StopsBy Device sink text = GainsPart sink text
StopsBy Memory sink text = IsUntouched sink

-- where the writing of a text succeeded, the whole of it was appended
abbrev pub WritesWhole : {A E : Type 0} → Result A E → Writing → List ℕ → Type 0
WritesWhole result sink text = OnOk result (GainsWhole sink text)

-- where the writing of a text failed, the fault says what was appended
abbrev pub StopsShort : {A : Type 0} → Result A WriteFault → Writing → List ℕ → Type 0
StopsShort result sink text = IfErr result (λ fault. StopsBy fault sink text)

-- pieces one after another, as one text
abbrev pub joined : List (Bor (List ℕ)) → List ℕ
joined pieces = flat_map (λ (piece : Bor (List ℕ)). piece.now) pieces
