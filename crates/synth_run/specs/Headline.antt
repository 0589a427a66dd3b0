-- What status 0 means: the text that was written is the answer of the command for the bytes on the source.
use Rattle.std.specs.Prelude.{◌≡◌, ℕ, List, length, Option, codes}
use Rattle.game_core.specs.declared.game.Row.{Row}
use Rattle.game_core.specs.Game.{Game}
use Rattle.plant_record.specs.Description.{Description}
use Rattle.plant_game.specs.Abstraction.{IsGameOf}
use Rattle.plant_game.specs.PlantSolution.{IsSolutionOf}
use Rattle.temporal_games.specs.Stay.{IsStaySolution}
use Rattle.temporal_texts.specs.StayText.{IsStayText}
use Rattle.temporal_texts.specs.Settles.{Settles}
use Rattle.turn_rows.specs.Targets.{IsInTarget}
use Rattle.temporal_games.specs.Patrol.{IsPatrol}
use Rattle.temporal_texts.specs.PatrolText.{IsPatrolText}
use Rattle.temporal_texts.specs.Patrols.{Patrols}
use Rattle.controller_table.specs.TableText.{written_version}
use Rattle.controller_table.specs.KindTexts.{table_text}
use Rattle.controller_table.specs.Tables.{RowsFit, IsTable}
use Rattle.successor_box.specs.Deviations.{HasNoOverflow}
use Rattle.plant_refine.specs.Controls.{Controls}
use Rattle.command_line.specs.declared.command.Command.{Command}
use Rattle.command_line.specs.declared.command.Command.TheVariants.{Synth, Check, Upgrade, Sim, Demo, Stay, Patrol}
use Rattle.demo_plants.specs.Demo.{IsDemoLine}
use Rattle.command_outcomes.specs.IsOutcomeFor.{IsAccepted, IsSolvable, IsPatrollable}
use Rattle.command_outcomes.specs.Traces.{IsTraceFor}

-- The text is the table of the solution of a plant's game.
-- With `goal reach`: ranks are least depths of winning strategies in the abstraction, cells without a row have none, and
-- from every state of a ranked cell, under all bounded disturbances, the table read back brings the plant into the target
-- within rank samples, and until then meeting no obstacle at any sample.
-- With `goal keep`: a cell has a row exactly where it is kept: where for every number of samples some strategy in the
-- abstraction stays off the obstacles for so long; and from every state of a cell with a row, under all bounded
-- disturbances and for every length of run, the table read back keeps the plant in the domain, off every obstacle.
pub record IsTableOf (p : Description) (text : List ℕ) : Type 0 where
  pub rows : List (Option Row)
  pub solution : IsSolutionOf p rows
  pub fitting : RowsFit p rows
  pub text_is : text ≡ table_text written_version p rows
  pub controls : Controls p text

-- the bytes spell a plant that nothing refuses, and the text is its table
abbrev pub IsTableFor : List ℕ → List ℕ → Type 0
IsTableFor bytes text = (p : Description) × IsAccepted bytes p × IsSolvable p × IsTableOf p text

-- The bytes are the table, in any version, of the solution of the plant that they hold, and nothing refuses this
-- plant: so the table controls it, by the plant's goal.
pub record IsValid (bytes : List ℕ) : Type 0 where
  pub plant : Description
  pub rows : List (Option Row)
  pub table : IsTable bytes plant rows
  pub solvable : IsSolvable plant
  pub solution : IsSolutionOf plant rows
  pub controls : Controls plant bytes

-- The bytes are a table, in any version, of a plant that doesn't overflow, and the text is that of its plant and rows as
-- tables are written now. Nothing says that the rows are right.
pub record IsUpgradeOf (bytes text : List ℕ) : Type 0 where
  pub plant : Description
  pub rows : List (Option Row)
  pub table : IsTable bytes plant rows
  pub fits : HasNoOverflow plant
  pub text_is : text ≡ table_text written_version plant rows

-- The text is that of the solution of reach and stay of a plant's game: ranks are least depths of strategies in the
-- abstraction that lead to cells where the controller can keep to the targets for any number of samples, and cells without
-- a row have none.
-- From every state of a cell with a row of rank k, under all bounded disturbances and for every length of run, the text
-- read back brings the plant into a target: it lies in one at sample k and at every later sample, meeting no obstacle at
-- any sample.
pub record IsStayTableOf (p : Description) (text : List ℕ) : Type 0 where
  pub game : Game
  pub abstraction : IsGameOf p game
  pub rows : List (Option Row)
  pub solution : IsStaySolution game rows
  pub table : IsStayText text p rows
  pub settles : Settles p text

-- the bytes spell a plant that nothing refuses, and the text is that of its reach and stay
abbrev pub IsStayTableFor : List ℕ → List ℕ → Type 0
IsStayTableFor bytes text = (p : Description) × IsAccepted bytes p × IsSolvable p × IsStayTableOf p text

-- The text is that of the solution of a patrol of a plant's targets in turn: ranks are least depths, at least 1, of
-- strategies in the abstraction that lead to cells of the target from which the visits can go on for ever, and cells
-- without a row for a turn have none.
-- From every state with a row for the target whose turn it is, of rank k, under all bounded disturbances, the text read
-- back brings the plant into that target at a sample from 1 to k. There it has a row for the next one, the first following
-- the last. No state lies in an obstacle box. This holds for every length of run.
pub record IsPatrolTableOf (p : Description) (text : List ℕ) : Type 0 where
  pub game : Game
  pub abstraction : IsGameOf p game
  pub rows : List (List (Option Row))
  pub solution : IsPatrol game (IsInTarget p) (length p.targets) rows
  pub table : IsPatrolText text p rows
  pub patrols : Patrols p text

-- the bytes spell a plant that nothing refuses, with few enough turns, and the text is that of its patrol
abbrev pub IsPatrolTableFor : List ℕ → List ℕ → Type 0
IsPatrolTableFor bytes text = (p : Description) × IsAccepted bytes p × IsPatrollable p × IsPatrolTableOf p text

-- the answer of a command for some bytes: that of `synth` is the plant's one table, whatever the number of workers, that of
-- `check` is `valid` where the bytes are one, that of `upgrade` is the text of the table that the bytes are, that of `sim`
-- is a trace of it, that of `demo` is the line of the demo plant, and those of `stay` and `patrol` are the texts by which
-- the plant comes into its targets to stay there, and visits them in turn
abbrev pub IsAnswer : Command → List ℕ → List ℕ → Type 0
IsAnswer (Synth workers) bytes text = IsTableFor bytes text
IsAnswer Check bytes text = IsValid bytes × (text ≡ codes "valid\n")
IsAnswer Upgrade bytes text = IsUpgradeOf bytes text
IsAnswer (Sim samples seed start) bytes text = IsTraceFor bytes samples seed start text
IsAnswer (Demo number workers) bytes text = IsDemoLine number text
IsAnswer (Stay workers) bytes text = IsStayTableFor bytes text
IsAnswer (Patrol workers) bytes text = IsPatrolTableFor bytes text
