-- What a text demands of a command: to be refused for the first reason that applies, or to be answered.
use Rattle.std.specs.Prelude.{◌≡◌, ◌⊎◌, ℕ, ◌<◌, ◌≤◌, List, Option, Some}
use Rattle.plant_record.specs.declared.limit_kind.LimitKind.{LimitKind}
use Rattle.plant_record.specs.declared.limit_kind.LimitKind.TheVariants.{Edges}
use Rattle.plant_text.specs.declared.plant_fault.PlantFault.{PlantFault}
use Rattle.plant_text.specs.declared.plant_fault.PlantFault.TheVariants as plants
use Rattle.plant_record.specs.Description.{Description}
use Rattle.plant_record.specs.Limits.{IsWithinLimits}
use Rattle.plant_text.specs.Grammar.{Spells}
use Rattle.plant_text.specs.PlantRefusals.{IsShort, IsRefusedFor}
use Rattle.successor_box.specs.Deviations.{HasNoOverflow, IsFirstOverflow}
use Rattle.game_core.specs.declared.game.Row.{Row}
use Rattle.game_core.specs.Game.{Game}
use Rattle.game_core.specs.Judging.{IsFirstFailure}
use Rattle.plant_game.specs.Abstraction.{IsGameOf, AreEdges}
use Rattle.plant_game.specs.PlantSolution.{IsSolutionOf}
use Rattle.table_check.specs.Verdicts.{IsRightFor}
use Rattle.controller_table.specs.declared.table_fault.TableFault.{TableFault}
use Rattle.controller_table.specs.declared.table_fault.TableFault.TheVariants as tables
use Rattle.controller_table.specs.Tables.{IsTable}
use Rattle.controller_table.specs.TableRefusals.{IsTableRefusedFor}
use Rattle.controller_table.specs.TextKinds.{HasFewTurns}
use Rattle.command_line.specs.declared.command.Command.{Command}
use Rattle.command_line.specs.declared.command.Command.TheVariants.{Check, Upgrade, Sim, Demo, Patrol}
use Rattle.command_line.specs.declared.outcome.Refusal.{Refusal}
use Rattle.command_line.specs.declared.outcome.Refusal.TheVariants.{Malformed, Overflow, Limit, TooManyTurns, Invalid, NoRow}
use Rattle.command_line.specs.declared.outcome.Outcome.{Outcome}
use Rattle.command_line.specs.declared.outcome.Outcome.TheVariants.{Done, Refused}
use Rattle.command_outcomes.specs.Traces.{HasRowFor, HasNoRowFor}
use Rattle.base.specs.declared.limits.TheConstants.{EDGES_LIMIT}

-- ---- a plant within the limits on input vectors, cells and pairs

-- A plant whose numbers stay in the range, and whose game has so many edges.
pub record HasEdges (p : Description) (edges : ℕ) : Type 0 where
  pub fits : HasNoOverflow p
  pub counted : AreEdges p edges

-- A plant that nothing refuses: its numbers stay in the range, and it has no more edges than the limit.
abbrev pub IsSolvable : Description → Type 0
IsSolvable p = (edges : ℕ) × HasEdges p edges × (edges ≤ EDGES_LIMIT)

-- nothing refuses the plant, and its patrol has few enough turns
abbrev pub IsPatrollable : Description → Type 0
IsPatrollable p = IsSolvable p × HasFewTurns p

-- The bytes spell a plant within the limits on a text, on input vectors, on cells and on pairs.
pub record IsAccepted (bytes : List ℕ) (p : Description) : Type 0 where
  pub short : IsShort bytes
  pub spells : Spells bytes p
  pub limits : IsWithinLimits p

-- The cell is the least whose row isn't right in the plant's game.
pub record IsFirstWrong (p : Description) (rows : List (Option Row)) (cell : ℕ) : Type 0 where
  pub game : Game
  pub abstraction : IsGameOf p game
  pub wrong : IsFirstFailure (IsRightFor p.goal game rows) 0 game.cells (Some cell)

-- ---- the text of a command

-- the bytes are a text that the command takes, of this plant: a table for `check`, `upgrade` and `sim`, else a plant text; `demo`
-- takes none
abbrev pub IsTextFor : Command → List ℕ → Description → Type 0
IsTextFor Check bytes p = (rows : List (Option Row)) × IsTable bytes p rows
IsTextFor Upgrade bytes p = (rows : List (Option Row)) × IsTable bytes p rows
IsTextFor (Sim samples seed start) bytes p = (rows : List (Option Row)) × IsTable bytes p rows
IsTextFor (Demo number workers) bytes p = ⊥
IsTextFor command bytes p = IsAccepted bytes p

-- the bytes are no such text, by the fault of a plant's text or by that of a table
abbrev pub AreUnreadable : Command → List ℕ → PlantFault → TableFault → Type 0
AreUnreadable Check bytes of_plant of_table = IsTableRefusedFor bytes of_table
AreUnreadable Upgrade bytes of_plant of_table = IsTableRefusedFor bytes of_table
AreUnreadable (Sim samples seed start) bytes of_plant of_table = IsTableRefusedFor bytes of_table
AreUnreadable (Demo number workers) bytes of_plant of_table = ⊥
AreUnreadable command bytes of_plant of_table = IsRefusedFor bytes of_plant

-- the command builds the plant's game, so its edges are limited
abbrev pub BuildsGame : Command → Type 0
BuildsGame Upgrade = ⊥
BuildsGame (Sim samples seed start) = ⊥
BuildsGame command = Unit {0}

-- the limit is that on the edges of the game, and the game has more
abbrev pub HasTooManyEdges : Command → List ℕ → LimitKind → Type 0
HasTooManyEdges command bytes what =
    (what ≡ Edges) × BuildsGame command × ((p : Description) × IsTextFor command bytes p × ((edges : ℕ) × HasEdges p edges × (EDGES_LIMIT < edges)))

-- the bytes are to be answered: they are a text that the command takes, with all that it asks of the plant and the rows; `demo` is
-- answered whatever they are
abbrev pub IsAnswerable : Command → List ℕ → Type 0
IsAnswerable Check bytes = (p : Description) × (rows : List (Option Row)) × IsTable bytes p rows × (IsSolvable p × IsSolutionOf p rows)
IsAnswerable Upgrade bytes = (p : Description) × (rows : List (Option Row)) × IsTable bytes p rows × HasNoOverflow p
IsAnswerable (Sim samples seed start) bytes = (p : Description) × (rows : List (Option Row)) × IsTable bytes p rows × (HasNoOverflow p × HasRowFor p rows start)
IsAnswerable (Demo number workers) bytes = Unit {0}
IsAnswerable (Patrol workers) bytes = (p : Description) × IsAccepted bytes p × IsPatrollable p
IsAnswerable command bytes = (p : Description) × IsAccepted bytes p × IsSolvable p

-- the bytes are to be refused for this reason; each reason excludes the others
abbrev pub IsRefusalFor : Command → List ℕ → Refusal → Type 0
IsRefusalFor command bytes (Malformed line) = AreUnreadable command bytes (plants.Malformed line) (tables.Malformed line)
IsRefusalFor command bytes (Limit what) = AreUnreadable command bytes (plants.Limit what) (tables.Limit what) ⊎ HasTooManyEdges command bytes what
IsRefusalFor command bytes (Overflow equation input) = (p : Description) × IsTextFor command bytes p × IsFirstOverflow p equation input
IsRefusalFor (Patrol workers) bytes TooManyTurns = (p : Description) × IsAccepted bytes p × IsSolvable p × (HasFewTurns p → ⊥)
IsRefusalFor Check bytes (Invalid cell) = (p : Description) × (rows : List (Option Row)) × IsTable bytes p rows × IsSolvable p × IsFirstWrong p rows cell
IsRefusalFor (Sim samples seed start) bytes NoRow = (p : Description) × (rows : List (Option Row)) × IsTable bytes p rows × HasNoOverflow p × HasNoRowFor p rows start
IsRefusalFor command bytes refusal = ⊥

-- the outcome that the bytes demand: to be answered, or to be refused for this reason
abbrev pub IsOutcomeFor : Command → List ℕ → Outcome → Type 0
IsOutcomeFor command bytes Done = IsAnswerable command bytes
IsOutcomeFor command bytes (Refused refusal) = IsRefusalFor command bytes refusal
IsOutcomeFor command bytes outcome = ⊥
