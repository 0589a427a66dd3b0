-- What a command has worked out from its source before anything is written.
use Rattle.std.specs.Prelude.{◌≡◌, ◌≢◌, Option, None, IfSome, IsTrue}
use Rattle.cell_counters.specs.BoardModels.{BoardModel, RootModel}
use Rattle.command_line.specs.declared.command.Command.{Command}
use Rattle.command_line.specs.declared.outcome.Failure.TheVariants.{Read, Write, Memory}
use Rattle.command_line.specs.declared.outcome.Outcome.{Outcome}
use Rattle.command_line.specs.declared.outcome.Outcome.TheVariants as outcomes
use Rattle.text_abstraction.specs.declared.stop.Stop.{Stop}
use Rattle.text_abstraction.specs.declared.stop.Stop.TheVariants.{Failed}
use Rattle.run_devices.specs.Devices.{next_count, Reading, Writing, GainsWhole, GainsPart}
use Rattle.run_devices.specs.Transfers.{IsUntouched}
use Rattle.synth_run.specs.Sources.{bytes_for}
use Rattle.synth_run.specs.Headline.{IsAnswer}
use Rattle.synth_run.specs.RunClauses.{Ends, TakesFor}
use Rattle.command_texts.specs.declared.text.Text.{Text}
use Rattle.synth_run.specs.declared.work.Work.{Work}
use Rattle.text_abstraction.specs.Causes.{outcome_of}
use Rattle.command_texts.specs.Texts.{bytes_of, CanBeWritten}
use Rattle.synth_run.specs.Played.{IsPlayed}

-- The text of the answer was worked out.
pub record IsWorkedOut (command : Command) (text : Text) (source : Reading) : Type 0 where
  pub can_be_written : CanBeWritten text
  pub answer : IfSome (bytes_for command source.before) (λ bytes. IsAnswer command bytes (bytes_of text))
  pub ends : Ends command (bytes_for command source.before) outcomes.Done
  pub takes : (outcome : Outcome) → TakesFor command outcome source
  pub no_fault : source.faults_after ≡ source.faults_before

-- the text of a work is that of the command's answer
abbrev pub HasItsAnswer : Command → Reading → Work → Type 0
HasItsAnswer command source work = IsWorkedOut command work.text source

-- a work has what its command is to leave, once its answer is written
abbrev pub HasItsGame : Command → Reading → Work → Type 0
HasItsGame command source work = IsPlayed command source.before work.played

-- There is no answer, for this reason.
pub record IsStopped (command : Command) (source : Reading) (stop : Stop) : Type 0 where
  pub ends : Ends command (bytes_for command source.before) (outcome_of stop)
  pub not_write : stop ≢ Failed Write
  pub takes : TakesFor command (outcome_of stop) source
  pub fault : stop ≡ Failed Read → source.faults_after ≡ next_count source.faults_before
  pub no_fault : stop ≢ Failed Read → source.faults_after ≡ source.faults_before
  pub sound : IsTrue source.is_sound → stop ≢ Failed Read

-- how the writing of a text ends
abbrev pub IsWrittenOut : Text → Outcome → Writing → Type 0
IsWrittenOut text outcomes.Done out = GainsWhole out (bytes_of text)
IsWrittenOut text outcomes.Usage out = ⊥
IsWrittenOut text (outcomes.Refused refusal) out = ⊥
IsWrittenOut text (outcomes.Failed Read) out = ⊥
IsWrittenOut text (outcomes.Failed Write) out = GainsPart out (bytes_of text)
IsWrittenOut text (outcomes.Failed Memory) out = IsUntouched out

-- what is left of a game after an end: all of it, or nothing
pub record IsLeftAfter (outcome : Outcome) (played left : Option (BoardModel × RootModel)) : Type 0 where
  pub all : outcome ≡ outcomes.Done → left ≡ played
  pub nothing : outcome ≢ outcomes.Done → left ≡ None
