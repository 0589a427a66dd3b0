-- What a command leaves of the game that it solved.
use Rattle.std.proofs.Common.{◌≡◌, ℕ, List, refl, subst}
use Rattle.std.specs.Prelude.{Option, Some}
use Rattle.board_rounds.specs.declared.solving.SolvedGame.{SolvedGame}
use Rattle.cell_counters.specs.BoardModels.{BoardModel, RootModel}
use Rattle.game_core.specs.Game.{Game}
use Rattle.plant_record.specs.declared.aims.GoalKind.{GoalKind}
use Rattle.plant_record.specs.Description.{Description}
use Rattle.plant_game.specs.Abstraction.{IsGameOf}
use Rattle.command_line.specs.declared.command.Command.{Command}
use Rattle.command_line.specs.declared.command.Command.TheVariants.{Synth, Check, Upgrade, Sim, Demo, Stay, Patrol}
use Rattle.run_devices.specs.Devices.{Reading}
use Rattle.goal_solver.specs.SolvedGames.{IsReckonedOn, IsSolvedGame}
use Rattle.synth_run.specs.Played.{IsSolvedOn, LeavesTheGameOf, IsPlayed}
use Rattle.command_outcomes.specs.IsOutcomeFor.{IsAccepted}
use Rattle.synth_run.specs.inside.Making.{IsReadFor}
use Rattle.synth_run.proofs.Limits.{of_front, long_front}

-- a plant's game, solved for the plant's goal
pub solved_on : (p : Description) (g : Game) (goal : GoalKind) (solved : SolvedGame) → goal ≡ p.goal → IsGameOf p g → IsSolvedGame goal g solved → IsSolvedOn p solved.board solved.root
solved_on p g goal solved same abstraction h = record {
  game = g;
  abstraction = abstraction;
  reckoned = subst (λ (k : GoalKind). IsReckonedOn k g solved.board solved.root.accounts) same h.reckoned;
  at = h.at;
  settled = h.settled;
}

-- a board and its root that are kept
pub left : (p : Description) (board : BoardModel) (root : RootModel) → IsSolvedOn p board root → LeavesTheGameOf p (Some (board, root))
left p board root h = (board, root, refl, h)

-- what is left for the bytes that were read is left for the command's: what was read spells no plant where it is a front of a
-- longer text
pub to_be_left : (command : Command) (played : Option (BoardModel × RootModel)) (source : Reading) (read : List ℕ) → IsReadFor command read source → IsPlayed command (Some read) played → IsPlayed command source.before played
to_be_left (Synth workers) played source read whole h =
    (h.0, h.1, of_front (λ bytes. IsAccepted bytes h.0) 65537 source.before read whole.front (λ bytes lt accepted. absurd (long_front bytes lt accepted.short)) h.2, h.3)
to_be_left Check played source read whole h = h
to_be_left Upgrade played source read whole h = h
to_be_left (Sim samples seed start) played source read whole h = h
to_be_left (Demo number workers) played source read whole h = h
to_be_left (Stay workers) played source read whole h = h
to_be_left (Patrol workers) played source read whole h = h
