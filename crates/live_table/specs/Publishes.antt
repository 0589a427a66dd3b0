-- Lists of publishes: that of a publisher, what a reader has seen and was told of, and what an answer says of them.
use Rattle.std.specs.Prelude.{◌≡◌, ℕ, ℤ, List, [], ◌∷◌, ◌++◌, length, Option, if◌then◌else◌, nat_lt}
use mathlib.Core.List.{IsPrefix}
use Rattle.logbook.specs.Pages.{Book}
use Rattle.controller_table.specs.Tables.{TableModel}
use Rattle.controller_table.specs.Choice.{choice_at}

-- The tables that were published since an opening, in order: all of them for a publisher, those so far for a `Told`.
pub record Published : Type 0 where
  pub opening : Book
  pub list : List TableModel

-- The publishes that a reader has seen, and those that it was told of.
pub record Listener : Type 0 where
  pub opening : Book
  pub seen : List TableModel
  pub told : List TableModel

-- the table is published
abbrev pub with_table : Published → TableModel → Published
with_table p t = record p { list = p.list ++ t ∷ [] }

-- a reader that has seen and was told of all that is published
abbrev pub newcomer : Published → Listener
newcomer p = record { opening = p.opening; seen = p.list; told = p.list }

-- the longer of two lists, the first where they are as long
abbrev pub longer_list : List TableModel → List TableModel → List TableModel
longer_list xs ys = if nat_lt (length xs) (length ys) then ys else xs

-- the table is the last of the list
abbrev pub EndsWith : List TableModel → TableModel → Type 0
EndsWith list table = (before : List TableModel) × (list ≡ before ++ table ∷ [])

-- what the last table of a list chooses at a state
abbrev pub LastChooses : List TableModel → List ℤ → Option ℕ → Type 0
LastChooses list x choice = (table : TableModel) × EndsWith list table × (choice ≡ choice_at table.plant table.rows x)

-- A reader answers by the last table of a list of publishes, which it then has seen, and which begins with all that
-- it had seen or was told of.
pub record Answers (before after : Listener) (x : List ℤ) (number : ℕ) (choice : Option ℕ) : Type 0 where
  pub goes_on_from_seen : IsPrefix before.seen after.seen
  pub goes_on_from_told : IsPrefix before.told after.seen
  pub counts : number ≡ length after.seen
  pub chooses : LastChooses after.seen x choice
