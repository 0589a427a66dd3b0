-- What is to be done at a state by what a text says, and by each text that says it.
use Rattle.std.specs.Prelude.{◌≡◌, ℕ, ℤ, pos, negsuc, List, length, Option, Some, None}
use Rattle.game_core.specs.declared.game.Row.{Row}
use Rattle.plant_record.specs.declared.aims.GoalKind.{GoalKind}
use Rattle.plant_record.specs.Description.{vector_of}
use Rattle.controller_table.specs.Choice.{row_at, applied}
use Rattle.controller_table.specs.TextRows.{HasTextRow}
use Rattle.text_control.specs.declared.reply.Reply.{Reply}
use Rattle.text_control.specs.declared.reply.Reply.TheVariants as replies
use Rattle.controller_table.specs.declared.text_kind.TextKind.{TextKind}
use Rattle.controller_table.specs.declared.text_kind.TextKind.TheVariants.{Table}
use Rattle.text_control.specs.Texts.{TextModel, due_rows, Tells}

-- One number for each state, and room for one for each input variable.
pub record AreSized (t : TextModel) (x before : List ℤ) : Type 0 where
  pub states : length x ≡ length t.plant.states
  pub inputs : length before ≡ length t.plant.inputs

-- what a row of a text applies: that of a table by the goal, and any other its input
abbrev pub applied_as : TextKind → GoalKind → Row → Option ℕ
applied_as (Table version) goal row = applied goal row
applied_as kind goal row = Some row.input

-- the row of the state's cell for the turn that is due
abbrev pub due_row : TextModel → List ℤ → Option Row
due_row t x = row_at t.plant (due_rows t) x

-- These are the values of the input that the row at the state applies.
pub record AreChosen (t : TextModel) (x values : List ℤ) : Type 0 where
  pub row : Row
  pub has : due_row t x ≡ Some row
  pub input : ℕ
  pub applies : applied_as t.kind t.plant.goal row ≡ Some input
  pub are : values ≡ vector_of t.plant.inputs input

-- The state lies in a cell of rank 0 of a table that brings a plant to its targets: nothing is applied there.
pub record HasArrived (t : TextModel) (x : List ℤ) : Type 0 where
  pub row : Row
  pub has : due_row t x ≡ Some row
  pub none : applied_as t.kind t.plant.goal row ≡ None
  pub rank : row.rank ≡ 0

-- a reply, by the numbers in the inputs before and after it
abbrev pub IsReply : TextModel → List ℤ → List ℤ → List ℤ → Reply → Type 0
IsReply t x before after replies.Apply = AreSized t x before × AreChosen t x after
IsReply t x before after replies.Arrived = AreSized t x before × HasArrived t x × (after ≡ before)
IsReply t x before after replies.NoRow = AreSized t x before × (due_row t x ≡ None) × (after ≡ before)
IsReply t x before after replies.WrongSizes = (AreSized t x before → ⊥) × (after ≡ before)

-- the number of a reply: 1, 0 and -1 as examples/device has them
abbrev pub reply_number : Reply → ℤ
reply_number replies.Apply = pos 1
reply_number replies.Arrived = pos 0
reply_number replies.NoRow = negsuc 0
reply_number replies.WrongSizes = negsuc 1

-- the text has a row of this rank at the state, for a turn
abbrev pub HasTextRank : TextKind → ℕ → List ℕ → List ℤ → ℕ → Type 0
HasTextRank kind j bytes x k = (row : Row) × HasTextRow kind bytes j x row × (row.rank ≡ k)

-- these are the values of the input that the text applies at the state, for a turn
abbrev pub AreTextValues : TextKind → ℕ → List ℕ → List ℤ → List ℤ → Type 0
AreTextValues kind j bytes x values =
    (row : Row) × (has : HasTextRow kind bytes j x row) × (u : ℕ) × (applied_as kind has.plant.goal row ≡ Some u) × (values ≡ vector_of has.plant.inputs u)

-- the text has no row at the state
abbrev pub HasNoTextRank : TextKind → ℕ → List ℕ → List ℤ → Type 0
HasNoTextRank kind j bytes x = (k : ℕ) → HasTextRank kind j bytes x k → ⊥

-- the text applies no values at the state
abbrev pub AppliesNone : TextKind → ℕ → List ℕ → List ℤ → Type 0
AppliesNone kind j bytes x = (values : List ℤ) → AreTextValues kind j bytes x values → ⊥

-- a reply by a text, by the numbers in the inputs after it
abbrev pub IsReplyBy : TextKind → ℕ → List ℕ → List ℤ → List ℤ → Reply → Type 0
IsReplyBy kind j bytes x after replies.Apply = AreTextValues kind j bytes x after
IsReplyBy kind j bytes x after replies.Arrived = HasTextRank kind j bytes x 0 × AppliesNone kind j bytes x
IsReplyBy kind j bytes x after replies.NoRow = HasNoTextRank kind j bytes x × AppliesNone kind j bytes x
IsReplyBy kind j bytes x after replies.WrongSizes = Unit {0}

-- whatever text says this
abbrev pub IsReplyByText : TextModel → List ℤ → List ℤ → Reply → Type 0
IsReplyByText t x after reply = (bytes : List ℕ) → Tells bytes t → IsReplyBy t.kind t.turn bytes x after reply

-- a number that means a reply, and the text's reply, by the numbers in the inputs before and after it
abbrev pub EncodesReply : TextModel → List ℤ → List ℤ → List ℤ → ℤ → Type 0
EncodesReply t x before after number =
    (reply : Reply) × (number ≡ reply_number reply) × IsReply t x before after reply × IsReplyByText t x after reply

-- The state's cell has a row of this rank for the turn.
pub record IsRankAt (t : TextModel) (x : List ℤ) (rank : ℕ) : Type 0 where
  pub row : Row
  pub has : due_row t x ≡ Some row
  pub is : rank ≡ row.rank

-- the rank at the state, and by whatever text says this
abbrev pub IsRank : TextModel → List ℤ → ℕ → Type 0
IsRank t x rank = IsRankAt t x rank × ((bytes : List ℕ) → Tells bytes t → HasTextRank t.kind t.turn bytes x rank)

-- the cell of the state has no row for the turn, and by whatever text says this
abbrev pub IsUnranked : TextModel → List ℤ → Type 0
IsUnranked t x = (due_row t x ≡ None) × ((bytes : List ℕ) → Tells bytes t → HasNoTextRank t.kind t.turn bytes x)
