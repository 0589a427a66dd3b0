-- What a run of a live script gives.
use Rattle.std.specs.Prelude.{◌≡◌, ◌≢◌, ◌⊎◌, ◌↔◌, ℕ, ◌+◌, List, [], ◌∷◌, drop, Option, Some, IfSome, codes}
use Rattle.std.specs.Fmt.{decimal}
use Rattle.run_devices.specs.Devices.{Reading, Writing, GainsWhole, GainsPart, Reports, TakesAtMost, AreUnused}
use Rattle.base.specs.Workers.{AreWorkers}
use Rattle.command_line.specs.Statuses.{status_of, line_of}
use Rattle.command_line.specs.Ends.{IsShownBy}
use Rattle.command_line.specs.declared.outcome.Failure.TheVariants.{Read, Write, Memory}
use Rattle.command_line.specs.declared.outcome.Outcome.{Outcome}
use Rattle.command_line.specs.declared.outcome.Outcome.TheVariants.{Done, Usage, Refused, Failed}
use Rattle.live_script.specs.declared.command.ScriptCommand.{ScriptCommand}
use Rattle.live_script.specs.declared.script_fault.ScriptFault.{ScriptFault}
use Rattle.live_script.specs.Scripts.{IsScript}
use Rattle.live_script.specs.LiveText.{IsLiveText}
use Rattle.live_script.specs.ScriptRefusals.{IsScriptRefusedFor}
use Rattle.live_run.specs.LiveCauses.{of_script}
use Rattle.base.specs.declared.limits.TheConstants.{SCRIPT_LIMIT}

-- the arguments are `live` and how many readers answer
abbrev pub IsLiveCommand : List (List ℕ) → ℕ → Type 0
IsLiveCommand arguments readers = (arguments ≡ codes "live" ∷ decimal readers ∷ []) × AreWorkers readers

-- one byte more than a script may have
abbrev pub most_read : ℕ
most_read = SCRIPT_LIMIT + 1

-- the answers to a script were written whole
abbrev pub IsAnswered : List ℕ → Writing → Type 0
IsAnswered script out = (text : List ℕ) × IsLiveText script text × GainsWhole out text

-- a write failed, and a part of the answers was written
abbrev pub IsCutOff : List ℕ → Writing → Type 0
IsCutOff script out = (text : List ℕ) × IsLiveText script text × GainsPart out text

-- how the command may end: by answers to its script or a refusal of it, or of some script where the source doesn't tell its bytes; or
-- by a failure
abbrev pub Ends : Option (List ℕ) → Outcome → Type 0
Ends told Usage = ⊥
Ends told Done = (script : List ℕ) × IfSome told (λ all. all ≡ script) × ((text : List ℕ) × IsLiveText script text)
Ends told (Refused refusal) = (script : List ℕ) × IfSome told (λ all. all ≡ script) × ((fault : ScriptFault) × (Refused refusal ≡ of_script fault) × IsScriptRefusedFor script fault)
Ends told (Failed failure) = Unit {0}

-- What a run of the command gives, by how it ends.
pub record IsLiveEnd (outcome : Outcome) (source : Reading) (out : Writing) : Type 0 where
  pub ends : Ends source.before outcome
  pub answered : outcome ≡ Done → IfSome source.before (λ script. IsAnswered script out)
  pub cut_off : outcome ≡ Failed Write → IfSome source.before (λ script. IsCutOff script out)
  pub read : outcome ≢ Failed Read → outcome ≢ Failed Memory → IfSome source.before (λ script. source.after ≡ Some (drop most_read script))
  pub never_past : TakesAtMost source.before source.after most_read
  pub shown : IsShownBy outcome source out

-- A run with some arguments has this outcome: what their command does, or `usage` where they are of no command.
pub record IsLiveRunWith (arguments : List (List ℕ)) (outcome : Outcome) (source : Reading) (out : Writing) : Type 0 where
  pub usage : (outcome ≡ Usage) ↔ ((readers : ℕ) → IsLiveCommand arguments readers → ⊥)
  pub unused : outcome ≡ Usage → AreUnused source out
  pub of_command : (readers : ℕ) → IsLiveCommand arguments readers → IsLiveEnd outcome source out

-- A run with some arguments ends with the status of an outcome, and reports its line: nothing where this has no bytes.
pub record IsLiveRun (arguments : List (List ℕ)) (status : ℕ) (source : Reading) (out err : Writing) : Type 0 where
  pub outcome : Outcome
  pub status_is : status ≡ status_of outcome
  pub said : Reports err (line_of outcome)
  pub gives : IsLiveRunWith arguments outcome source out

-- the status is 0 for a script and that of its fault for other bytes, or 8 where there was no memory left
pub record IsCompleteAnswer (status : ℕ) (script : List ℕ) : Type 0 where
  pub answered : (commands : List ScriptCommand) → IsScript script commands → (status ≡ 0) ⊎ (status ≡ 8)
  pub refused : (fault : ScriptFault) → IsScriptRefusedFor script fault → (status ≡ status_of (of_script fault)) ⊎ (status ≡ 8)
