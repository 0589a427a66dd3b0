-- What a run of the program does, by its arguments.
use Rattle.std.specs.Prelude.{◌≡◌, ◌≢◌, ◌⊎◌, ◌↔◌, ℕ, List, drop, Option, Some, None, IfSome}
use Rattle.cell_counters.specs.BoardModels.{BoardModel, RootModel}
use Rattle.command_line.specs.declared.command.Command.{Command}
use Rattle.command_line.specs.declared.outcome.Failure.TheVariants.{Read, Write, Memory}
use Rattle.command_line.specs.declared.outcome.Outcome.{Outcome}
use Rattle.command_line.specs.declared.outcome.Outcome.TheVariants.{Done, Usage, Failed}
use Rattle.run_devices.specs.Devices.{Reading, Writing, GainsWhole, GainsPart, Reports, TakesAtMost, AreUnused}
use Rattle.command_line.specs.Command.{IsOfCommand, AreOfNoCommand}
use Rattle.command_line.specs.Statuses.{status_of, line_of}
use Rattle.command_line.specs.Ends.{IsShownBy}
use Rattle.synth_run.specs.Sources.{Reads, bytes_for, most_read}
use Rattle.command_outcomes.specs.IsOutcomeFor.{IsOutcomeFor}
use Rattle.synth_run.specs.Headline.{IsAnswer}
use Rattle.synth_run.specs.Played.{IsPlayed}

-- the answer of a command for some bytes was written whole
abbrev pub IsAnswered : Command → List ℕ → Writing → Type 0
IsAnswered command bytes out = (text : List ℕ) × IsAnswer command bytes text × GainsWhole out text

-- a write failed, and a part of the answer was written
abbrev pub IsCutOff : Command → List ℕ → Writing → Type 0
IsCutOff command bytes out = (text : List ℕ) × IsAnswer command bytes text × GainsPart out text

-- how a command may end: as the bytes that it works on demand, or as some bytes do where the source doesn't tell them; by a
-- failed read, where it reads its source; by a failed write; or without memory
abbrev pub Ends : Command → Option (List ℕ) → Outcome → Type 0
Ends command told (Failed Read) = Reads command
Ends command told (Failed failure) = Unit {0}
Ends command told outcome = (bytes : List ℕ) × IfSome told (λ all. all ≡ bytes) × IsOutcomeFor command bytes outcome

-- What a run of a command wrote: the answer, or a part of it.
pub record Writes (command : Command) (outcome : Outcome) (source : Reading) (out : Writing) : Type 0 where
  pub answered : outcome ≡ Done → IfSome (bytes_for command source.before) (λ bytes. IsAnswered command bytes out)
  pub cut_off : outcome ≡ Failed Write → IfSome (bytes_for command source.before) (λ bytes. IsCutOff command bytes out)

-- a source that tells its bytes was read to its end, or to one byte past the limit of a command's text
abbrev pub IsSourceRead : Command → Reading → Type 0
IsSourceRead command source = IfSome source.before (λ bytes. source.after ≡ Some (drop (most_read command) bytes))

-- What a run of a command took of its source: all that the command reads, unless the run failed before, and never more.
pub record TakesFor (command : Command) (outcome : Outcome) (source : Reading) : Type 0 where
  pub read : outcome ≢ Failed Read → outcome ≢ Failed Memory → IsSourceRead command source
  pub never_past : TakesAtMost source.before source.after (most_read command)
  pub leaves_alone : (Reads command → ⊥) → source.after ≡ source.before

-- What a run of a command reads, writes, reports of its devices and leaves of the game that it solved, by its outcome.
pub record IsRunOf (command : Command) (outcome : Outcome) (source : Reading) (out : Writing) (played : Option (BoardModel × RootModel)) : Type 0 where
  pub ends : Ends command (bytes_for command source.before) outcome
  pub writes : Writes command outcome source out
  pub takes : TakesFor command outcome source
  pub leaves : outcome ≡ Done → IsPlayed command source.before played
  pub leaves_nothing : outcome ≢ Done → played ≡ None
  pub shown : IsShownBy outcome source out

-- A run with some arguments has this outcome: what their command does, or `usage` where they are of no command.
pub record IsRunWith (arguments : List (List ℕ)) (outcome : Outcome) (source : Reading) (out : Writing) (played : Option (BoardModel × RootModel)) : Type 0 where
  pub usage : (outcome ≡ Usage) ↔ AreOfNoCommand arguments
  pub unused : outcome ≡ Usage → AreUnused source out
  pub unplayed : outcome ≡ Usage → played ≡ None
  pub of_command : (command : Command) → IsOfCommand arguments command → IsRunOf command outcome source out played

-- A run with some arguments ends with the status of an outcome, and reports its line: nothing where this has no bytes.
pub record IsRun (arguments : List (List ℕ)) (status : ℕ) (source : Reading) (out err : Writing) (played : Option (BoardModel × RootModel)) : Type 0 where
  pub outcome : Outcome
  pub status_is : status ≡ status_of outcome
  pub said : Reports err (line_of outcome)
  pub gives : IsRunWith arguments outcome source out played

-- the status is that of the outcome which the bytes demand of the command, or 8 where there was no memory left
abbrev pub IsCompleteAnswer : Command → ℕ → List ℕ → Type 0
IsCompleteAnswer command status bytes = (outcome : Outcome) → IsOutcomeFor command bytes outcome → (status ≡ status_of outcome) ⊎ (status ≡ 8)
