-- What holds of every run.
use Rattle.std.specs.Prelude.{◌≡◌, ℕ, List}
use Rattle.synth_run.specs.Headline.{IsTableFor, IsStayTableFor, IsPatrolTableFor}

-- bytes have at most one table
abbrev pub OneTableForBytes : Type 0
OneTableForBytes = (bytes a b : List ℕ) → IsTableFor bytes a → IsTableFor bytes b → a ≡ b

-- bytes have at most one text of reach and stay
abbrev pub OneStayTextForBytes : Type 0
OneStayTextForBytes = (bytes a b : List ℕ) → IsStayTableFor bytes a → IsStayTableFor bytes b → a ≡ b

-- bytes have at most one text of a patrol
abbrev pub OnePatrolTextForBytes : Type 0
OnePatrolTextForBytes = (bytes a b : List ℕ) → IsPatrolTableFor bytes a → IsPatrolTableFor bytes b → a ≡ b
