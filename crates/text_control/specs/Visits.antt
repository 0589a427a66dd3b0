-- When the turn of a patrol changes.
use Rattle.std.specs.Prelude.{◌≡◌, ℕ, ℤ, pos, negsuc, List, length}
use Rattle.game_core.specs.declared.game.Row.{Row}
use Rattle.grid_quantiser.specs.Cells.{cell_of}
use Rattle.grid_quantiser.specs.CellBoxes.{IsInBox}
use Rattle.plant_record.specs.Description.{axes_of}
use Rattle.controller_table.specs.Choice.{HasRowAt}
use Rattle.turn_rows.specs.Targets.{IsInTarget, target_at, next_turn}
use Rattle.turn_rows.specs.Rows.{rows_for}
use Rattle.temporal_texts.specs.TextTrajectories.{IsTurnFrom}
use Rattle.text_control.specs.declared.visits.Visit.{Visit}
use Rattle.text_control.specs.declared.visits.Visit.TheVariants.{Next, Same, WrongSize}
use Rattle.controller_table.specs.declared.text_kind.TextKind.TheVariants.{Patrol}
use Rattle.text_control.specs.Texts.{TextModel, Tells}

-- the turn after the one that is due
abbrev pub turn_after : TextModel → ℕ
turn_after t = next_turn (length t.plant.targets) t.turn

-- The state is an arrival of a patrol: its cell lies in the target of the turn, and has a row for the next one.
pub record HasArrivedInTurn (t : TextModel) (x : List ℤ) : Type 0 where
  pub patrol : t.kind ≡ Patrol
  pub target : IsInTarget t.plant t.turn (cell_of (axes_of t.plant) x)
  pub row : Row
  pub next : HasRowAt t.plant (rows_for t.turns (turn_after t)) x row

-- the turn that is due ends at a state: the state is an arrival, within the turn's target
abbrev pub EndsTurnAt : TextModel → List ℤ → Type 0
EndsTurnAt t x = HasArrivedInTurn t x × IsInBox (axes_of t.plant) (target_at t.plant t.turn).low (target_at t.plant t.turn).high x

-- a turn begins at a state: the state is an arrival, and the turn is the one after that which is due
abbrev pub BeginsAt : TextModel → List ℤ → ℕ → Type 0
BeginsAt t x turn = HasArrivedInTurn t x × (turn ≡ turn_after t)

-- the same text where another turn is due
abbrev pub with_turn : TextModel → ℕ → TextModel
with_turn t j = record { kind = t.kind; plant = t.plant; turns = t.turns; turn = j }

-- what a visit does: the next turn is due exactly from an arrival on
abbrev pub IsVisit : TextModel → List ℤ → TextModel → Visit → Type 0
IsVisit t x after Next = (length x ≡ length t.plant.states) × HasArrivedInTurn t x × (after ≡ with_turn t (turn_after t))
IsVisit t x after Same = (length x ≡ length t.plant.states) × (HasArrivedInTurn t x → ⊥) × (after ≡ t)
IsVisit t x after WrongSize = (length x ≡ length t.plant.states → ⊥) × (after ≡ t)

-- the turn is that of whatever patrol text says this
abbrev pub IsVisitByText : TextModel → List ℤ → TextModel → Visit → Type 0
IsVisitByText t x after WrongSize = Unit {0}
IsVisitByText t x after visit = (bytes : List ℕ) → Tells bytes t → t.kind ≡ Patrol → IsTurnFrom t.plant bytes t.turn x after.turn

-- the number of a visit
abbrev pub visit_number : Visit → ℤ
visit_number Next = pos 1
visit_number Same = pos 0
visit_number WrongSize = negsuc 1

-- a number that means what a visit does, also by the text
abbrev pub EncodesVisit : TextModel → List ℤ → TextModel → ℤ → Type 0
EncodesVisit t x after number = (visit : Visit) × (number ≡ visit_number visit) × IsVisit t x after visit × IsVisitByText t x after visit
