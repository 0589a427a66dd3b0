-- What was read of a script, and how its answers are written. No public clause names this.
use Rattle.std.specs.Prelude.{◌≡◌, ◌≢◌, List, ℕ, IsTrue}
use Rattle.run_devices.specs.Devices.{next_count, Reading, Writing, TakesAtMost, GainsWhole, GainsPart}
use Rattle.run_devices.specs.Transfers.{ReadUpTo}
use Rattle.command_line.specs.declared.outcome.Failure.TheVariants.{Read, Write, Memory}
use Rattle.command_line.specs.declared.outcome.Outcome.{Outcome}
use Rattle.command_line.specs.declared.outcome.Outcome.TheVariants.{Done, Usage, Refused, Failed}
use Rattle.command_line.specs.Ends.{failure_of}
use Rattle.run_devices.specs.declared.transfer.ReadFault.{ReadFault}
use Rattle.run_devices.specs.declared.transfer.ReadFault.TheVariants as reads
use Rattle.live_script.specs.declared.script_fault.ScriptFault.{ScriptFault}
use Rattle.live_script.specs.LiveText.{IsLiveText}
use Rattle.live_run.specs.declared.live_stop.LiveStop.{LiveStop}
use Rattle.live_run.specs.declared.live_stop.LiveStop.TheVariants.{Unread, Unanswered}
use Rattle.live_run.specs.LiveCauses.{of_script}
use Rattle.live_run.specs.LiveRuns.{most_read}
use Rattle.live_run.specs.inside.Answering.{IsUnanswered}

-- A source was read to its end, or to one byte past a script's limit.
pub record IsScriptRead (source : Reading) (read : List ℕ) : Type 0 where
  pub up_to : ReadUpTo source.before source.after most_read read
  pub never_past : TakesAtMost source.before source.after most_read
  pub no_fault : source.faults_after ≡ source.faults_before

-- The text answers the script that was read.
pub record IsWorkedOut (text : List ℕ) (source : Reading) : Type 0 where
  pub script : List ℕ
  pub read : IsScriptRead source script
  pub answers : IsLiveText script text

-- The source wasn't read, for this reason.
pub record IsUnread (fault : ReadFault) (source : Reading) : Type 0 where
  pub never_past : TakesAtMost source.before source.after most_read
  pub failed : fault ≡ reads.Device → source.faults_after ≡ next_count source.faults_before
  pub stood : fault ≢ reads.Device → source.faults_after ≡ source.faults_before
  pub sound : IsTrue source.is_sound → fault ≢ reads.Device

-- The script that was read has no answers, for this reason.
pub record HasNoAnswers (fault : ScriptFault) (source : Reading) : Type 0 where
  pub script : List ℕ
  pub read : IsScriptRead source script
  pub why : IsUnanswered script fault

-- why there are no answers: the source was not read, or its script has none
abbrev pub IsStopped : LiveStop → Reading → Type 0
IsStopped (Unread fault) source = IsUnread fault source
IsStopped (Unanswered fault) source = HasNoAnswers fault source

-- how a run ends that has no answers
abbrev pub outcome_of_stop : LiveStop → Outcome
outcome_of_stop (Unread fault) = Failed (failure_of fault)
outcome_of_stop (Unanswered fault) = of_script fault

-- how the writing of the answers ends
abbrev pub IsWrittenOut : List ℕ → Outcome → Writing → Type 0
IsWrittenOut text Done out = GainsWhole out text
IsWrittenOut text Usage out = ⊥
IsWrittenOut text (Refused refusal) out = ⊥
IsWrittenOut text (Failed Read) out = ⊥
IsWrittenOut text (Failed Write) out = GainsPart out text
IsWrittenOut text (Failed Memory) out = ⊥
