-- What a run of a command gives for its arguments.
use Rattle.std.proofs.Common.{◌≡◌, ℕ, List, Option, subst}
use Rattle.cell_counters.specs.BoardModels.{BoardModel, RootModel}
use Rattle.command_line.specs.declared.command.Command.{Command}
use Rattle.command_line.specs.declared.outcome.Outcome.{Outcome}
use Rattle.command_line.specs.declared.outcome.Outcome.TheVariants.{Usage}
use Rattle.run_devices.specs.Devices.{Reading, Writing}
use Rattle.command_line.specs.Command.{IsOfCommand}
use Rattle.synth_run.specs.Sources.{bytes_for}
use Rattle.synth_run.specs.RunClauses.{Ends, IsRunOf, IsRunWith}
use Rattle.command_line.proofs.Laws.{one_command}

--  arguments are of one command, and not of none
pub gives_by_command : (arguments : List (List ℕ)) (command : Command) (outcome : Outcome) (source : Reading) (out : Writing) (played : Option (BoardModel × RootModel)) → IsOfCommand arguments command → IsRunOf command outcome source out played → IsRunWith arguments outcome source out played
gives_by_command arguments command outcome source out played of_command run = record {
  usage = (λ e. absurd (not_usage e), λ none. absurd (none command of_command));
  unused = λ e. absurd (not_usage e);
  unplayed = λ e. absurd (not_usage e);
  of_command = λ other of_other. subst (λ (f : Command). IsRunOf f outcome source out played) (one_command arguments command other of_command of_other) run;
}
  where
    not_usage : outcome ≡ Usage → ⊥
    not_usage e = (subst (Ends command (bytes_for command source.before)) e run.ends).2
