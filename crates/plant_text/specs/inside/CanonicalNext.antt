-- Which statement is taken from a canonical line. No public clause names this.
use Rattle.std.specs.Prelude.{◌≡◌, ℕ, ◌<◌, List, [], ◌++◌, length, slice_index_or, codes}
use Rattle.plant_record.specs.declared.variables.Variables.{Variables}
use Rattle.plant_record.specs.Parts.{variable_names}
use Rattle.plant_reading.specs.declared.statements.Statement.{Statement as Read}
use Rattle.plant_reading.specs.Statements.{Statement}
use Rattle.plant_reading.specs.StatementsRead.{statement_of}
use Rattle.plant_text.specs.Grammar.{PartialPlant, names_in, FitsAfter}
use Rattle.plant_text.specs.CanonicalFronts.{IsInOrder, statement_line}

-- a statement has its position after a part and in the canonical order
abbrev pub FitsInOrder : PartialPlant → Statement → Type 0
FitsInOrder q s = FitsAfter q s × IsInOrder q s

-- the next equation of a part is that of the state of this name
abbrev pub IsNextState : PartialPlant → List ℕ → Type 0
IsNextState q name = (length q.equations < length q.states) × (slice_index_or (names_in q) (length q.equations) [] ≡ name)

-- the canonical line of a statement in memory over these variables
abbrev pub canonical_line : Variables → Read → List ℕ
canonical_line variables s = statement_line (variable_names variables) (length variables.states.items) (statement_of s)

-- a statement has its position after a part and in the canonical order, and this is its line
pub record IsCanonicalNext (q : PartialPlant) (words : List ℕ) (s : Statement) : Type 0 where
  pub fits : FitsAfter q s
  pub order : IsInOrder q s
  pub spelling : words ++ codes "\n" ≡ statement_line (names_in q) (length q.states) s
