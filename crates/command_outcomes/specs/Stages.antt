-- The reasons of `IsRefusalFor` in the stages in which a command comes upon them: first its text, then the plant, then what
-- the command asks of both. `proofs/Stages.antt` shows that they are the same.
use Rattle.std.specs.Prelude.{◌≡◌, ◌⊎◌, ℕ, ◌<◌, ℤ, List, Option}
use Rattle.plant_record.specs.declared.limit_kind.LimitKind.{LimitKind}
use Rattle.plant_record.specs.declared.limit_kind.LimitKind.TheVariants.{Edges}
use Rattle.plant_text.specs.declared.plant_fault.PlantFault.TheVariants as plants
use Rattle.plant_record.specs.Description.{Description}
use Rattle.plant_text.specs.PlantRefusals.{IsRefusedFor}
use Rattle.successor_box.specs.Deviations.{HasNoOverflow, IsFirstOverflow}
use Rattle.game_core.specs.declared.game.Row.{Row}
use Rattle.controller_table.specs.declared.table_fault.TableFault.TheVariants as tables
use Rattle.controller_table.specs.Tables.{IsTable}
use Rattle.controller_table.specs.TableRefusals.{IsTableRefusedFor}
use Rattle.controller_table.specs.TextKinds.{HasFewTurns}
use Rattle.command_line.specs.declared.command.Command.{Command}
use Rattle.command_line.specs.declared.command.Command.TheVariants.{Synth, Check, Upgrade, Sim, Demo, Stay, Patrol}
use Rattle.command_line.specs.declared.outcome.Refusal.{Refusal}
use Rattle.command_line.specs.declared.outcome.Refusal.TheVariants.{Malformed, Overflow, Limit, TooManyTurns, Invalid, NoRow}
use Rattle.command_outcomes.specs.Traces.{HasNoRowFor}
use Rattle.command_outcomes.specs.IsOutcomeFor.{HasEdges, IsSolvable, IsAccepted, IsFirstWrong}
use Rattle.base.specs.declared.limits.TheConstants.{EDGES_LIMIT}

-- ---- a plant within the limits on input vectors, cells and pairs

-- a number leaves the range: the first, by equation and input vector
abbrev pub IsOverflow : Description → Refusal → Type 0
IsOverflow p refusal = (equation input : ℕ) × (refusal ≡ Overflow equation input) × IsFirstOverflow p equation input

-- none does, and the game has too many edges
abbrev pub HasManyEdges : Description → Refusal → Type 0
HasManyEdges p refusal = (refusal ≡ Limit Edges) × ((edges : ℕ) × HasEdges p edges × (EDGES_LIMIT < edges))

-- why such a plant is refused
abbrev pub IsPlantRefusal : Description → Refusal → Type 0
IsPlantRefusal p refusal = IsOverflow p refusal ⊎ HasManyEdges p refusal

-- why a plant is refused a patrol: for what refuses it in any case, else for too many turns
abbrev pub IsPatrolRefusal : Description → Refusal → Type 0
IsPatrolRefusal p refusal = IsPlantRefusal p refusal ⊎ ((refusal ≡ TooManyTurns) × IsSolvable p × (HasFewTurns p → ⊥))

-- ---- the text of a plant

-- a reader refuses a text: for a line that is malformed, or for a limit
abbrev pub IsReadRefusal : (ℕ → Type 0) → (LimitKind → Type 0) → Refusal → Type 0
IsReadRefusal malformed beyond refusal =
    ((line : ℕ) × (refusal ≡ Malformed line) × malformed line) ⊎ ((what : LimitKind) × (refusal ≡ Limit what) × beyond what)

-- the bytes spell a plant within the limits of which this holds
abbrev pub SpellPlantWith : (Description → Type 0) → List ℕ → Type 0
SpellPlantWith Holds bytes = (p : Description) × IsAccepted bytes p × Holds p

-- the grammar or a limit refuses the bytes
abbrev pub IsRefused : List ℕ → Refusal → Type 0
IsRefused bytes refusal = IsReadRefusal (λ line. IsRefusedFor bytes (plants.Malformed line)) (λ what. IsRefusedFor bytes (plants.Limit what)) refusal

-- why a plant text is refused: for its bytes, else for the plant that they spell
abbrev pub IsTextRefusal : (Description → Refusal → Type 0) → List ℕ → Refusal → Type 0
IsTextRefusal IsRefusalOf bytes refusal = IsRefused bytes refusal ⊎ SpellPlantWith (λ p. IsRefusalOf p refusal) bytes

-- ---- the text of a table

-- why rows are refused: for their plant, else for the first cell whose row isn't right
abbrev pub IsRowsRefusal : Description → List (Option Row) → Refusal → Type 0
IsRowsRefusal p rows refusal = IsPlantRefusal p refusal ⊎ ((cell : ℕ) × (refusal ≡ Invalid cell) × IsSolvable p × IsFirstWrong p rows cell)

-- why a table is refused to drive its plant: for a number that leaves the range, else since there is no row for the start
abbrev pub IsStartRefusal : List ℤ → Description → List (Option Row) → Refusal → Type 0
IsStartRefusal start p rows refusal = IsOverflow p refusal ⊎ ((refusal ≡ NoRow) × HasNoOverflow p × HasNoRowFor p rows start)

-- the bytes are a table, of a plant within the limits and of rows of which this holds
abbrev pub AreTableWith : (Description → List (Option Row) → Type 0) → List ℕ → Type 0
AreTableWith Holds bytes = (p : Description) × (rows : List (Option Row)) × IsTable bytes p rows × Holds p rows

-- the grammar of tables or a limit refuses the bytes
abbrev pub IsRefusedTable : List ℕ → Refusal → Type 0
IsRefusedTable bytes refusal = IsReadRefusal (λ line. IsTableRefusedFor bytes (tables.Malformed line)) (λ what. IsTableRefusedFor bytes (tables.Limit what)) refusal

-- why a table text is refused: for its bytes, else for the plant and the rows that they are
abbrev pub IsTableRefusal : (Description → List (Option Row) → Refusal → Type 0) → List ℕ → Refusal → Type 0
IsTableRefusal IsRefusalOf bytes refusal = IsRefusedTable bytes refusal ⊎ AreTableWith (λ p rows. IsRefusalOf p rows refusal) bytes

-- why a command refuses the bytes, by these stages; nothing refuses a demo plant
abbrev pub IsStagedRefusal : Command → List ℕ → Refusal → Type 0
IsStagedRefusal (Synth workers) bytes refusal = IsTextRefusal IsPlantRefusal bytes refusal
IsStagedRefusal Check bytes refusal = IsTableRefusal IsRowsRefusal bytes refusal
IsStagedRefusal Upgrade bytes refusal = IsTableRefusal (λ p rows r. IsOverflow p r) bytes refusal
IsStagedRefusal (Sim samples seed start) bytes refusal = IsTableRefusal (IsStartRefusal start) bytes refusal
IsStagedRefusal (Demo number workers) bytes refusal = ⊥
IsStagedRefusal (Stay workers) bytes refusal = IsTextRefusal IsPlantRefusal bytes refusal
IsStagedRefusal (Patrol workers) bytes refusal = IsTextRefusal IsPatrolRefusal bytes refusal
