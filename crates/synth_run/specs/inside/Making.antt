-- What a command makes of the bytes that it works on.
use Rattle.std.specs.Prelude.{◌≡◌, ℕ, List, Some, take, IfSome}
use Rattle.command_line.specs.declared.command.Command.{Command}
use Rattle.command_line.specs.declared.outcome.Outcome.{Outcome}
use Rattle.run_devices.specs.Devices.{Reading}
use Rattle.synth_run.specs.declared.work.Work.{Work}
use Rattle.synth_run.specs.Sources.{bytes_for, most_read}
use Rattle.synth_run.specs.Headline.{IsAnswer}
use Rattle.synth_run.specs.Played.{IsPlayed}
use Rattle.synth_run.specs.RunClauses.{TakesFor}
use Rattle.command_texts.specs.Texts.{bytes_of, CanBeWritten}

-- A command has the bytes that it works on: what it is given, up to one byte past the limit of its text.
pub record IsReadFor (command : Command) (bytes : List ℕ) (source : Reading) : Type 0 where
  pub front : IfSome (bytes_for command source.before) (λ told. bytes ≡ take (most_read command) told)
  pub takes : (outcome : Outcome) → TakesFor command outcome source
  pub no_fault : source.faults_after ≡ source.faults_before

-- A command has made its answer of bytes, and what it is to leave.
pub record IsMade (command : Command) (bytes : List ℕ) (work : Work) : Type 0 where
  pub can_be_written : CanBeWritten work.text
  pub answer : IsAnswer command bytes (bytes_of work.text)
  pub leaves : IsPlayed command (Some bytes) work.played
