-- What the devices show of each end of a run.
use Rattle.std.specs.Prelude.{◌≡◌, ℕ, List, IsTrue}
use Rattle.std.proofs.Common.{refl}
use Rattle.run_devices.specs.Devices.{next_count, Reading, Writing, GainsWhole, GainsPart}
use Rattle.run_devices.specs.Transfers.{IsUntouched}
use Rattle.command_line.specs.declared.outcome.Refusal.{Refusal}
use Rattle.command_line.specs.declared.outcome.Failure.TheVariants.{Read, Write, Memory}
use Rattle.command_line.specs.declared.outcome.Outcome.TheVariants.{Done, Refused, Failed}
use Rattle.command_line.specs.Ends.{IsShownBy}

-- the whole answer is written
pub shown_done : (source : Reading) (out : Writing) (text : List ℕ) → source.faults_after ≡ source.faults_before → GainsWhole out text → IsShownBy Done source out
shown_done source out text no_fault whole = record {
  nothing_written = λ not_done _. absurd (not_done refl);
  read_fault = λ e. absurd (let clash : Done ≡ Failed Read = e in cc);
  no_read_fault = λ _. no_fault;
  sound_source = λ _ e. cc;
  write_fault = λ e. absurd (let clash : Done ≡ Failed Write = e in cc);
  no_write_fault = λ _. whole.no_fault;
}

-- a write fails within the answer
pub shown_cut_off : (source : Reading) (out : Writing) (text : List ℕ) → source.faults_after ≡ source.faults_before → GainsPart out text → IsShownBy (Failed Write) source out
shown_cut_off source out text no_fault part = record {
  nothing_written = λ _ other. absurd (other refl);
  read_fault = λ e. absurd (let clash : Failed Write ≡ Failed Read = e in cc);
  no_read_fault = λ _. no_fault;
  sound_source = λ _ e. cc;
  write_fault = λ _. part.fault;
  no_write_fault = λ other. absurd (other refl);
}

-- a text is refused
pub shown_refused : (refusal : Refusal) (source : Reading) (out : Writing) → source.faults_after ≡ source.faults_before → IsUntouched out → IsShownBy (Refused refusal) source out
shown_refused refusal source out no_fault untouched = record {
  nothing_written = λ _ _. untouched.nothing;
  read_fault = λ e. absurd (let clash : Refused refusal ≡ Failed Read = e in cc);
  no_read_fault = λ _. no_fault;
  sound_source = λ _ e. cc;
  write_fault = λ e. absurd (let clash : Refused refusal ≡ Failed Write = e in cc);
  no_write_fault = λ _. untouched.no_fault;
}

-- a read fails
pub shown_unread : (source : Reading) (out : Writing) → source.faults_after ≡ next_count source.faults_before → (IsTrue source.is_sound → ⊥) → IsUntouched out → IsShownBy (Failed Read) source out
shown_unread source out fault unsound untouched = record {
  nothing_written = λ _ _. untouched.nothing;
  read_fault = λ _. fault;
  no_read_fault = λ other. absurd (other refl);
  sound_source = λ is_sound _. unsound is_sound;
  write_fault = λ e. absurd (let clash : Failed Read ≡ Failed Write = e in cc);
  no_write_fault = λ _. untouched.no_fault;
}

-- there is no memory left
pub shown_without_memory : (source : Reading) (out : Writing) → source.faults_after ≡ source.faults_before → IsUntouched out → IsShownBy (Failed Memory) source out
shown_without_memory source out no_fault untouched = record {
  nothing_written = λ _ _. untouched.nothing;
  read_fault = λ e. absurd (let clash : Failed Memory ≡ Failed Read = e in cc);
  no_read_fault = λ _. no_fault;
  sound_source = λ _ e. cc;
  write_fault = λ e. absurd (let clash : Failed Memory ≡ Failed Write = e in cc);
  no_write_fault = λ _. untouched.no_fault;
}
