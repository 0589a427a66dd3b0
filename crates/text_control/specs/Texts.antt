-- What a table, a stay text or a patrol text says, and the turn that is due.
use Rattle.std.specs.Prelude.{◌≡◌, ℕ, List, Option}
use Rattle.game_core.specs.declared.game.Row.{Row}
use Rattle.plant_record.specs.Description.{Description}
use Rattle.controller_table.specs.declared.text_fault.TextFault.{TextFault}
use Rattle.controller_table.specs.declared.text_fault.TextFault.TheVariants as texts
use Rattle.controller_table.specs.KindTexts.{IsTextOf}
use Rattle.controller_table.specs.HeadedTexts.{AnyTable, Only, BeginsAs, IsTextRefusedFor}
use Rattle.turn_rows.specs.Rows.{rows_for}
use Rattle.controller_table.specs.declared.text_kind.TextKind.{TextKind}
use Rattle.controller_table.specs.declared.text_kind.TextKind.TheVariants.{Table, Stay, Patrol}
use Rattle.text_control.specs.declared.control_fault.ControlFault.{ControlFault}
use Rattle.text_control.specs.declared.control_fault.ControlFault.TheVariants.{Malformed, Limit, Memory}

-- What a text says, for each turn one optional row for each cell; and the turn that is due. A patrol has a turn for each target,
-- another text has one.
pub record TextModel : Type 0 where
  pub kind : TextKind
  pub plant : Description
  pub turns : List (List (Option Row))
  pub turn : ℕ

-- the rows of the turn that is due
abbrev pub due_rows : TextModel → List (Option Row)
due_rows t = rows_for t.turns t.turn

-- the bytes are the text of this kind, plant and rows
abbrev pub Tells : List ℕ → TextModel → Type 0
Tells bytes t = IsTextOf t.kind bytes t.plant t.turns

-- the bytes are that text, and its first turn is due
abbrev pub IsReadFrom : List ℕ → TextModel → Type 0
IsReadFrom bytes t = Tells bytes t × (t.turn ≡ 0)

-- the fault of bytes that are none of the three texts
abbrev pub control_fault : TextFault → ControlFault
control_fault (texts.Malformed line) = Malformed line
control_fault (texts.Limit what) = Limit
control_fault texts.Turns = Limit
control_fault texts.Memory = Memory

-- the bytes aren't the text that they begin as, which is a table where they begin as no other
abbrev pub IsRefusedAs : TextKind → List ℕ → TextFault → Type 0
IsRefusedAs (Table version) bytes f = (BeginsAs Stay bytes → ⊥) × (BeginsAs Patrol bytes → ⊥) × IsTextRefusedFor AnyTable bytes f
IsRefusedAs kind bytes f = BeginsAs kind bytes × IsTextRefusedFor (Only kind) bytes f

-- why bytes are none of the three texts
abbrev pub IsNoTextFor : List ℕ → ControlFault → Type 0
IsNoTextFor bytes fault = (kind : TextKind) × (f : TextFault) × (fault ≡ control_fault f) × IsRefusedAs kind bytes f
