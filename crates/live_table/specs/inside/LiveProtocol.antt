-- The rules of the history and of the two copies, and what their steps tell. No public clause names this.
use Rattle.std.specs.Prelude.{◌≡◌, ℕ, ℤ, ◌-◌, ◌<◌, ◌==◌, true, List, [], ◌∷◌, ◌++◌, length, Option, Some, None, MatchBool, Result, MatchResult}
use mathlib.Core.Option.{some}
use mathlib.Core.List.{IsPrefix}
use lib.ListN.{get_elem?}
use Rattle.logbook.specs.Pages.{Cell, Step, View, Book, Named}
use Rattle.controller_table.specs.Tables.{TableModel}
use Rattle.live_table.specs.declared.live_fault.LiveFault.{LiveFault}
use Rattle.live_table.specs.declared.reader.Answered.{Answered}
use Rattle.live_table.specs.Publishes.{Published, LastChooses}

-- The one word of a history counts the tables after the first.
pub record IsKept (cells : List Cell) (log : List TableModel) : Type 0 where
  pub words : cells ≡ (length log - 1, true) ∷ []
  pub some_table : 0 < length log

-- the word of a history
abbrev pub head_of : Book → Named
head_of b = record { tracked = true; key = 0; book = b }

-- the table was added to all that had been seen, or the word was another than expected
abbrev pub Adds : Step TableModel → View TableModel ℕ → ℕ → View TableModel ℕ → Type 0
Adds s v found w = MatchBool (found == s.old) (w.0 ≡ v.0 ++ s.ask ∷ []) (Unit {0})

-- what is known, if anything, is a prefix of what is in force
abbrev pub Begins : Option Published → Option Published → Type 0
Begins None now = Unit {0}
Begins (Some known) None = ⊥
Begins (Some known) (Some now) = (known.opening ≡ now.opening) × IsPrefix known.list now.list

-- the rule of the copies: at every moment the lists of all seats are prefixes of the list in force
abbrev pub AllBegin : Option Published → List (Option Published) → Type 0
AllBegin now views = (seat : ℕ) (v : Option Published) → get_elem? views seat ≡ some v → Begins v now

-- The list is a prefix of what a seat knows, so also of whatever that seat will see.
pub record Covers (known : Option Published) (list : Published) : Type 0 where
  pub all : Published
  pub is : known ≡ Some all
  pub opening : list.opening ≡ all.opening
  pub begins : IsPrefix list.list all.list

-- The list is what lies on the copy in force, and what the publisher's seat knows.
pub record IsInForce (now known : Option Published) (list : Published) : Type 0 where
  pub shown : now ≡ Some list
  pub is : known ≡ Some list

-- what a look at the copy in force tells
abbrev pub Looked : Option Published → Option Published → List ℤ → Result (Answered × Published) LiveFault → Type 0
Looked v w x found = MatchResult found (λ t. Begins v w × (w ≡ Some t.1) × (t.0.number ≡ length t.1.list) × LastChooses t.1.list x t.0.choice) (λ _. w ≡ v)
