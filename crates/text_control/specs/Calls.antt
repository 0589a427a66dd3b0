-- What a caller in C is told by the text that is held for it, if any.
use Rattle.std.specs.Prelude.{◌≡◌, ◌≢◌, ◌⊎◌, ℕ, ◌<◌, ◌≤◌, ℤ, pos, negsuc, List, length, Option, Some, None, true, false}
use Rattle.text_control.specs.declared.control_fault.ControlFault.{ControlFault}
use Rattle.text_control.specs.declared.control_fault.ControlFault.TheVariants as faults
use Rattle.text_control.specs.Texts.{TextModel, IsReadFrom, IsNoTextFor}
use Rattle.text_control.specs.Control.{EncodesReply, IsRank, IsUnranked}
use Rattle.text_control.specs.Each.{IsReplyEach}
use Rattle.text_control.specs.Visits.{with_turn, EncodesVisit}
use Rattle.text_control.specs.Followed.{EncodesFollow}

-- the status for a fault of a text
abbrev pub fault_number : ControlFault → ℤ
fault_number (faults.Malformed line) = pos 1
fault_number faults.Limit = pos 2
fault_number faults.Memory = pos 3

-- the line that a fault names, 0 where it names none
abbrev pub fault_line : ControlFault → ℕ
fault_line (faults.Malformed line) = line
fault_line faults.Limit = 0
fault_line faults.Memory = 0

-- Why no text is open.
pub record IsRefusal (bytes : List ℕ) (status : ℤ) (line : ℕ) : Type 0 where
  pub fault : ControlFault
  pub number : status ≡ fault_number fault
  pub line_is : line ≡ fault_line fault
  pub refused : fault ≢ faults.Memory → IsNoTextFor bytes fault

-- what the bytes say is held; or nothing is, and the numbers say why the bytes are no text
abbrev pub IsOpened : List ℕ → Option TextModel → ℤ → ℕ → Type 0
IsOpened bytes (Some t) status line = (status ≡ pos 0) × (line ≡ 0) × IsReadFrom bytes t
IsOpened bytes None status line = IsRefusal bytes status line

-- what is told at a state, by the numbers in the inputs before and after it
abbrev pub IsReplied : Option TextModel → List ℤ → List ℤ → List ℤ → ℤ → Type 0
IsReplied None x before after status = (status ≡ negsuc 2) × (after ≡ before)
IsReplied (Some t) x before after status = EncodesReply t x before after status

-- what is told at many states, by the inputs and the numbers before and after
abbrev pub AreReplied : Option TextModel → List ℤ → List ℤ → List ℤ → List ℤ → List ℤ → ℤ → Type 0
AreReplied None states before after old new status = (status ≡ negsuc 2) × (after ≡ before) × (new ≡ old)
AreReplied (Some t) states before after old new status =
    ((status ≡ pos 0) × IsReplyEach t states before after old new true)
    ⊎ ((status ≡ negsuc 1) × IsReplyEach t states before after old new false)

-- what is told of a visit, what is held after it, and the turn that is then due
abbrev pub IsVisited : Option TextModel → List ℤ → Option TextModel → ℕ → ℤ → Type 0
IsVisited None x held turn status = (status ≡ negsuc 2) × (held ≡ None) × (turn ≡ 0)
IsVisited (Some t) x held turn status = (after : TextModel) × (held ≡ Some after) × (turn ≡ after.turn) × EncodesVisit t x after status

-- what is told where a turn is to be due, and what is held then
abbrev pub IsBegun : Option TextModel → ℕ → Option TextModel → ℤ → Type 0
IsBegun None turn held status = (status ≡ negsuc 2) × (held ≡ None)
IsBegun (Some t) turn held status =
    ((status ≡ pos 0) × (turn < length t.turns) × (held ≡ Some (with_turn t turn)))
    ⊎ ((status ≡ negsuc 1) × (length t.turns ≤ turn) × (held ≡ Some t))

-- how many states and input variables the plant of the text has
abbrev pub HasSizes : Option TextModel → ℕ → ℕ → ℤ → Type 0
HasSizes None states inputs status = (status ≡ negsuc 2) × (states ≡ 0) × (inputs ≡ 0)
HasSizes (Some t) states inputs status = (status ≡ pos 0) × (states ≡ length t.plant.states) × (inputs ≡ length t.plant.inputs)

-- the rank at the state at 1; at -1 there is none, at -2 there isn't one number for each state
abbrev pub IsRanked : Option TextModel → List ℤ → ℕ → ℤ → Type 0
IsRanked None x rank status = (status ≡ negsuc 2) × (rank ≡ 0)
IsRanked (Some t) x rank status =
    ((status ≡ pos 1) × (length x ≡ length t.plant.states) × IsRank t x rank)
    ⊎ ((status ≡ negsuc 0) × (rank ≡ 0) × (length x ≡ length t.plant.states) × IsUnranked t x)
    ⊎ ((status ≡ negsuc 1) × (rank ≡ 0) × (length x ≡ length t.plant.states → ⊥))

-- whether the next state lies in its box, where these values are applied at the state
abbrev pub IsFollowed : Option TextModel → List ℤ → List ℤ → List ℤ → ℤ → Type 0
IsFollowed None x values y status = status ≡ negsuc 2
IsFollowed (Some t) x values y status = EncodesFollow t.plant (record { state = x; values = values; next = y }) status
