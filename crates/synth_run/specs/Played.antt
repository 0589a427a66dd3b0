-- What a run leaves of the game that it solved: the board on which its workers solved it, and the board's root.
use Rattle.std.specs.Prelude.{◌≡◌, ℕ, List, Option, Some, None, IfSome}
use Rattle.cell_counters.specs.BoardModels.{BoardModel, RootModel}
use Rattle.game_core.specs.Game.{Game}
use Rattle.plant_record.specs.Description.{Description}
use Rattle.plant_record.specs.Limits.{IsWithinLimits}
use Rattle.plant_text.specs.Grammar.{Spells}
use Rattle.plant_game.specs.Abstraction.{IsGameOf}
use Rattle.command_line.specs.declared.command.Command.{Command}
use Rattle.command_line.specs.declared.command.Command.TheVariants.{Synth, Demo}
use Rattle.command_outcomes.specs.IsOutcomeFor.{IsAccepted}
use Rattle.demo_plants.specs.Demo.{demo_text}
use Rattle.goal_solver.specs.SolvedGames.{IsReckonedOn}

-- The board on which a plant's game was solved, with its root: no hand is out, and the accounts are those of the solution.
-- Of logs and notes nothing is said.
pub record IsSolvedOn (p : Description) (board : BoardModel) (root : RootModel) : Type 0 where
  pub game : Game
  pub abstraction : IsGameOf p game
  pub reckoned : IsReckonedOn p.goal game board root.accounts
  pub at : root.board ≡ board
  pub settled : root.out ≡ 0

-- a board and its root are left, on which the plant's game was solved
abbrev pub LeavesTheGameOf : Description → Option (BoardModel × RootModel) → Type 0
LeavesTheGameOf p played = (board : BoardModel) × (root : RootModel) × (played ≡ Some (board, root)) × IsSolvedOn p board root

-- what a command leaves that was done: `synth` the game of its plant, which the source's bytes spell where it tells them,
-- and `demo` that of its demo text. `check`, `upgrade` and `sim` solve no game on a board, `stay` and `patrol` more than one: they
-- leave none
abbrev pub IsPlayed : Command → Option (List ℕ) → Option (BoardModel × RootModel) → Type 0
IsPlayed (Synth workers) told played = (p : Description) × IsWithinLimits p × IfSome told (λ bytes. IsAccepted bytes p) × LeavesTheGameOf p played
IsPlayed (Demo number workers) told played = (p : Description) × Spells (demo_text number) p × LeavesTheGameOf p played
IsPlayed command told played = played ≡ None
