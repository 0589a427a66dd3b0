-- Texts with a first line, the canonical text of a plant and rows after it: which are refused, and why. One kind of text is accepted,
-- or tables of both versions.
use Rattle.std.specs.Prelude.{◌≡◌, ◌⊎◌, ℕ, suc, ◌+◌, ◌≤◌, List, ◌++◌, length}
use Rattle.plant_record.specs.declared.limit_kind.LimitKind.TheVariants.{TableText}
use Rattle.plant_record.specs.Description.{Description}
use Rattle.plant_record.specs.Limits.{IsWithinLimits}
use Rattle.plant_writing.specs.CanonicalText.{text_of}
use Rattle.plant_text.specs.declared.plant_fault.PlantFault.{PlantFault}
use Rattle.plant_text.specs.declared.plant_fault.PlantFault.TheVariants as front
use Rattle.plant_text.specs.CanonicalFronts.{IsFrontRefusedFor}
use Rattle.row_reading.specs.Counting.{line_count}
use Rattle.row_reading.specs.TurnSteps.{AreTurnsRefusedAt}
use Rattle.row_reading.specs.declared.row_fault.RowFault.{RowFault}
use Rattle.row_reading.specs.declared.row_fault.RowFault.TheVariants as rows
use Rattle.base.specs.declared.limits.TheConstants.{TABLE_LIMIT}
use Rattle.controller_table.specs.declared.text_kind.TextKind.{TextKind}
use Rattle.controller_table.specs.declared.text_kind.TextKind.TheVariants.{Table}
use Rattle.controller_table.specs.declared.table_fault.TableFault.{TableFault}
use Rattle.controller_table.specs.declared.table_fault.TableFault.TheVariants as tables
use Rattle.controller_table.specs.declared.text_fault.TextFault.{TextFault}
use Rattle.controller_table.specs.declared.text_fault.TextFault.TheVariants as faults
use Rattle.controller_table.specs.TextKinds.{first_line, turn_rules, HasFewTurnsFor, most_bytes}

-- Which texts are accepted: tables of both versions, or texts of one kind.
pub data Kinds : Type 0 where
  AnyTable : Kinds
  Only : TextKind → Kinds

-- texts of this kind are accepted
abbrev pub Accept : Kinds → TextKind → Type 0
Accept AnyTable (Table version) = Unit {0}
Accept AnyTable kind = ⊥
Accept (Only one) kind = kind ≡ one

-- how many bytes they may have
abbrev pub most_bytes_of : Kinds → ℕ
most_bytes_of AnyTable = TABLE_LIMIT
most_bytes_of (Only kind) = most_bytes kind

-- the bytes begin with the first line of the kind
abbrev pub BeginsAs : TextKind → List ℕ → Type 0
BeginsAs kind bytes = (rest : List ℕ) × (bytes ≡ first_line kind ++ rest)

-- the bytes don't begin with the first line of a kind that is accepted
abbrev pub HasNoFirstLine : Kinds → List ℕ → Type 0
HasNoFirstLine kinds bytes = (kind : TextKind) → Accept kinds kind → BeginsAs kind bytes → ⊥

-- After the first line no plant is read, for this reason.
pub record IsPlantRefusedFor (kinds : Kinds) (bytes : List ℕ) (fault : PlantFault) : Type 0 where
  pub kind : TextKind
  pub accepted : Accept kinds kind
  pub rest : List ℕ
  pub are : bytes ≡ first_line kind ++ rest
  pub refused : IsFrontRefusedFor rest fault

-- After the first line stands the text of a plant within the limits, but with more turns of cells than the kind allows.
pub record HasManyTurns (kinds : Kinds) (bytes : List ℕ) : Type 0 where
  pub kind : TextKind
  pub accepted : Accept kinds kind
  pub plant : Description
  pub limits : IsWithinLimits plant
  pub rest : List ℕ
  pub are : bytes ≡ first_line kind ++ text_of plant ++ rest
  pub many : HasFewTurnsFor kind plant → ⊥

-- The n-th line is the first that is refused after the text of a plant within the limits, with few enough turns.
pub record AreRowsRefusedAt (kinds : Kinds) (bytes : List ℕ) (n : ℕ) : Type 0 where
  pub kind : TextKind
  pub accepted : Accept kinds kind
  pub plant : Description
  pub limits : IsWithinLimits plant
  pub few : HasFewTurnsFor kind plant
  pub rest : List ℕ
  pub are : bytes ≡ first_line kind ++ text_of plant ++ rest
  pub line : ℕ
  pub refused : AreTurnsRefusedAt (turn_rules kind plant) rest line
  pub number : n ≡ line_count (first_line kind ++ text_of plant) + line

-- the n-th line is the first that is refused: the first of all, one of the plant, or one of the rows
abbrev pub IsFirstRefusedLine : Kinds → List ℕ → ℕ → Type 0
IsFirstRefusedLine kinds bytes n =
    ((n ≡ 1) × HasNoFirstLine kinds bytes)
    ⊎ ((line : ℕ) × (n ≡ suc line) × IsPlantRefusedFor kinds bytes (front.Malformed line))
    ⊎ AreRowsRefusedAt kinds bytes n

-- why the lines of a text are refused, however many bytes it has; want of memory is the text's fault never
abbrev pub AreLinesRefusedFor : Kinds → List ℕ → TextFault → Type 0
AreLinesRefusedFor kinds bytes (faults.Malformed line) = IsFirstRefusedLine kinds bytes line
AreLinesRefusedFor kinds bytes (faults.Limit what) = IsPlantRefusedFor kinds bytes (front.Limit what)
AreLinesRefusedFor kinds bytes faults.Turns = HasManyTurns kinds bytes
AreLinesRefusedFor kinds bytes faults.Memory = ⊥

-- why a text is refused: it is too long, or else for its lines
abbrev pub IsTextRefusedFor : Kinds → List ℕ → TextFault → Type 0
IsTextRefusedFor kinds bytes (faults.Limit TableText) = length bytes ≤ most_bytes_of kinds → ⊥
IsTextRefusedFor kinds bytes fault = (length bytes ≤ most_bytes_of kinds) × AreLinesRefusedFor kinds bytes fault

-- the same fault, of a text that has no limit on its turns
abbrev pub text_fault : TableFault → TextFault
text_fault (tables.Malformed line) = faults.Malformed line
text_fault (tables.Limit what) = faults.Limit what
text_fault tables.Memory = faults.Memory

-- the same fault, of a text's rows
abbrev pub fault_of_rows : RowFault → TextFault
fault_of_rows (rows.Malformed line) = faults.Malformed line
fault_of_rows rows.Memory = faults.Memory
