-- What holds of every text of a kind, and of tables.
use Rattle.std.specs.Prelude.{◌≡◌, ℕ, ℤ, List, Option}
use Rattle.game_core.specs.declared.game.Row.{Row}
use Rattle.game_core.specs.Game.{Game, IsGraph}
use Rattle.game_core.specs.Keep.{IsKeepSolution}
use Rattle.game_core.specs.Solution.{IsReachSolution}
use Rattle.grid_quantiser.specs.Axes.{cells_of}
use Rattle.plant_record.specs.declared.aims.GoalKind.TheVariants.{Reach, Keep}
use Rattle.plant_record.specs.Description.{Description, axes_of, vectors_of}
use Rattle.controller_table.specs.declared.text_fault.TextFault.{TextFault}
use Rattle.controller_table.specs.declared.text_kind.TextKind.{TextKind}
use Rattle.controller_table.specs.KindTexts.{IsTextOf}
use Rattle.controller_table.specs.HeadedTexts.{Kinds, Accept, IsTextRefusedFor}
use Rattle.controller_table.specs.Tables.{RowsFit, IsTable}
use Rattle.controller_table.specs.Choice.{IsChoice, HasRank}
use Rattle.controller_table.specs.TableRefusals.{IsShortTable}

-- no bytes are texts of two kinds, or of one kind with two plants or with other rows
abbrev pub OneText : Type 0
OneText =
    (kind other : TextKind) (bytes : List ℕ) (p q : Description) (turns others : List (List (Option Row))) → IsTextOf kind bytes p turns → IsTextOf other bytes q others
    → (kind ≡ other) × (p ≡ q) × (turns ≡ others)

-- a text has at most one reason to be refused
abbrev pub OneRefusal : Type 0
OneRefusal = (kinds : Kinds) (bytes : List ℕ) (f g : TextFault) → IsTextRefusedFor kinds bytes f → IsTextRefusedFor kinds bytes g → f ≡ g

-- no text of a kind that is accepted is refused
abbrev pub NoTextIsRefused : Type 0
NoTextIsRefused =
    (kinds : Kinds) (kind : TextKind) (bytes : List ℕ) (p : Description) (turns : List (List (Option Row))) (f : TextFault) → Accept kinds kind → IsTextOf kind bytes p turns
    → IsTextRefusedFor kinds bytes f → ⊥

-- no bytes are neither a text of a kind that is accepted nor refused
abbrev pub NoTextIsNeither : Type 0
NoTextIsNeither =
    (kinds : Kinds) (bytes : List ℕ) → ((kind : TextKind) (p : Description) (turns : List (List (Option Row))) → Accept kinds kind → IsTextOf kind bytes p turns → ⊥)
    → ((f : TextFault) → IsTextRefusedFor kinds bytes f → ⊥) → ⊥

-- the table that bytes are chooses at most one input at a state
abbrev pub OneChoice : Type 0
OneChoice = (bytes : List ℕ) (x : List ℤ) (u v : ℕ) → IsChoice bytes x u → IsChoice bytes x v → u ≡ v

-- a state has at most one rank in the table that bytes are
abbrev pub OneRank : Type 0
OneRank = (bytes : List ℕ) (x : List ℤ) (j k : ℕ) → HasRank bytes x j → HasRank bytes x k → j ≡ k

-- a table's text is within the limit on its bytes
abbrev pub TablesAreShort : Type 0
TablesAreShort = (bytes : List ℕ) (p : Description) (rows : List (Option Row)) → IsTable bytes p rows → IsShortTable bytes

-- A game in memory over a plant's cells and input vectors.
pub record IsGraphOver (p : Description) (g : Game) : Type 0 where
  pub graph : IsGraph g
  pub cells : g.cells ≡ cells_of (axes_of p)
  pub inputs : g.inputs ≡ vectors_of p.inputs

-- the rows of the solution of such a game fit the plant
abbrev pub ReachSolutionsFit : Type 0
ReachSolutionsFit = (p : Description) (g : Game) (rows : List (Option Row)) → p.goal ≡ Reach → IsGraphOver p g → IsReachSolution g rows → RowsFit p rows

-- the keep solution of the game of a plant that is to be kept fits the plant
abbrev pub KeepSolutionsFit : Type 0
KeepSolutionsFit = (p : Description) (g : Game) (rows : List (Option Row)) → p.goal ≡ Keep → IsGraphOver p g → IsKeepSolution g rows → RowsFit p rows
