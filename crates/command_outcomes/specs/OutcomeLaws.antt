-- What holds of what texts demand.
use Rattle.std.specs.Prelude.{◌≡◌, ℕ, ℤ, List}
use Rattle.game_core.specs.Game.{Game}
use Rattle.plant_record.specs.Description.{Description}
use Rattle.plant_record.specs.Limits.{IsWithinLimits}
use Rattle.plant_game.specs.Abstraction.{IsGameOf}
use Rattle.command_line.specs.declared.command.Command.{Command}
use Rattle.command_line.specs.declared.outcome.Outcome.{Outcome}
use Rattle.command_outcomes.specs.IsOutcomeFor.{IsOutcomeFor}
use Rattle.command_outcomes.specs.Traces.{IsTraceFor}

-- no plant within the limits lacks a game; none is named, since that would take an algorithm for marks and successors
abbrev pub SomeGamePerPlant : Type 0
SomeGamePerPlant = (p : Description) → IsWithinLimits p → ((g : Game) → IsGameOf p g → ⊥) → ⊥

-- a text demands at most one outcome of a command
abbrev pub OneOutcomePerText : Type 0
OneOutcomePerText = (command : Command) (bytes : List ℕ) (a b : Outcome) → IsOutcomeFor command bytes a → IsOutcomeFor command bytes b → a ≡ b

-- no text demands nothing of a command
abbrev pub SomeOutcomePerText : Type 0
SomeOutcomePerText = (command : Command) (bytes : List ℕ) → ((outcome : Outcome) → IsOutcomeFor command bytes outcome → ⊥) → ⊥

-- bytes have at most one trace, from a start under the noises of a seed
abbrev pub OneTraceForBytes : Type 0
OneTraceForBytes = (bytes : List ℕ) (samples seed : ℕ) (start : List ℤ) (a b : List ℕ) → IsTraceFor bytes samples seed start a → IsTraceFor bytes samples seed start b → a ≡ b
