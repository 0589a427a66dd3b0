-- The grammar of plant texts: which lines spell which plant, and which line is refused.
use Rattle.std.specs.Prelude.{◌≡◌, ◌≢◌, ◌⊎◌, ℕ, ◌<◌, ◌≤◌, Bool, true, false, List, [], ◌∷◌, ◌++◌, length, Option, Some, None, slice_index_or}
use Rattle.std.specs.List.{Contains}
use Rattle.fixed_expr.specs.Expression.{Expression}
use Rattle.plant_record.specs.declared.variables.StateVariable.{StateVariable}
use Rattle.plant_record.specs.declared.variables.InputVariable.{InputVariable}
use Rattle.plant_record.specs.declared.variables.NoiseVariable.{NoiseVariable}
use Rattle.plant_record.specs.declared.aims.StateBox.{StateBox}
use Rattle.plant_record.specs.declared.aims.GoalKind.{GoalKind}
use Rattle.plant_record.specs.declared.aims.GoalKind.TheVariants.{Keep}
use Rattle.plant_record.specs.declared.version.PlantVersion.{PlantVersion}
use Rattle.plant_record.specs.declared.version.PlantVersion.TheVariants.{One}
use Rattle.plant_record.specs.Equations.{HasNoLut}
use Rattle.plant_record.specs.Description.{Description, names_over}
use Rattle.line_words.specs.Lines.{lines_of}
use Rattle.line_words.specs.Words.{words_of, is_skipped}
use Rattle.plant_reading.specs.Statements.{Statement, Version, State, Input, Noise, Next, Target, Obstacle, Goal, End, States}
use Rattle.text_pieces.specs.Steps.{IsReading, IsFirstRefused}
use Rattle.base.specs.declared.limits.TheConstants.{BOXES_LIMIT, INPUTS_LIMIT, NOISES_LIMIT, STATES_LIMIT}

-- The part of a plant that some lines spell.
pub record PartialPlant : Type 0 where
  pub version : Option PlantVersion
  pub states : List StateVariable
  pub inputs : List InputVariable
  pub noises : List NoiseVariable
  pub equations : List Expression
  pub targets : List StateBox
  pub obstacles : List StateBox
  pub goal : Option GoalKind
  pub ended : Bool

-- the part that no line has begun
abbrev pub nothing_yet : PartialPlant
nothing_yet = record { version = None; states = []; inputs = []; noises = []; equations = []; targets = []; obstacles = []; goal = None; ended = false }

-- the names of the variables that are declared so far
abbrev pub names_in : PartialPlant → List (List ℕ)
names_in q = names_over q.states q.inputs q.noises

-- each state has its equation
abbrev pub HasEquations : PartialPlant → Type 0
HasEquations q = (1 ≤ length q.states) × (length q.equations ≡ length q.states)

-- a name of no variable yet
abbrev pub IsNewIn : PartialPlant → List ℕ → Type 0
IsNewIn q name = Contains (names_in q) name → ⊥

-- a statement has its position after a part: in what order the lines stand, how many there are of each kind, and that version 1 has no table
abbrev pub FitsAfter : PartialPlant → Statement → Type 0
FitsAfter q (Version v) = q.version ≡ None
FitsAfter q (State s) = (q.version ≢ None) × (q.inputs ≡ []) × (q.noises ≡ []) × (q.equations ≡ []) × (length q.states < STATES_LIMIT) × IsNewIn q s.name
FitsAfter q (Input i) = (1 ≤ length q.states) × (q.noises ≡ []) × (q.equations ≡ []) × (length q.inputs < INPUTS_LIMIT) × IsNewIn q i.name
FitsAfter q (Noise w) = (1 ≤ length q.states) × (q.equations ≡ []) × (length q.noises < NOISES_LIMIT) × IsNewIn q w.name
FitsAfter q (Next name e) = (length q.equations < length q.states) × (slice_index_or (names_in q) (length q.equations) [] ≡ name) × (q.version ≡ Some One → HasNoLut e)
FitsAfter q (Target b) = HasEquations q × (q.goal ≡ None) × (length q.targets < BOXES_LIMIT)
FitsAfter q (Obstacle b) = HasEquations q × (q.goal ≡ None) × (length q.obstacles < BOXES_LIMIT)
FitsAfter q (Goal kind) = HasEquations q × (q.goal ≡ None) × (kind ≡ Keep → q.targets ≡ [])
FitsAfter q End = (q.goal ≢ None) × (q.ended ≡ false)

-- the part with the statement
abbrev pub with_statement : PartialPlant → Statement → PartialPlant
with_statement q (Version v) = record q { version = Some v }
with_statement q (State s) = record q { states = q.states ++ s ∷ [] }
with_statement q (Input i) = record q { inputs = q.inputs ++ i ∷ [] }
with_statement q (Noise w) = record q { noises = q.noises ++ w ∷ [] }
with_statement q (Next name e) = record q { equations = q.equations ++ e ∷ [] }
with_statement q (Target b) = record q { targets = q.targets ++ b ∷ [] }
with_statement q (Obstacle b) = record q { obstacles = q.obstacles ++ b ∷ [] }
with_statement q (Goal kind) = record q { goal = Some kind }
with_statement q End = record q { ended = true }

-- A line states something that has its position after a part, and leads to another part.
pub record IsStated (q : PartialPlant) (line : List ℕ) (r : PartialPlant) : Type 0 where
  pub statement : Statement
  pub states : States (names_in q) (length q.states) (words_of line) statement
  pub fits : FitsAfter q statement
  pub leads_to : r ≡ with_statement q statement

-- a line is skipped or states something
abbrev pub Extends : PartialPlant → List ℕ → PartialPlant → Type 0
Extends q line r = ((is_skipped line ≡ true) × (r ≡ q)) ⊎ IsStated q line r

-- a piece of a text's lines is one line, which leads from one part to the next
abbrev pub LineStep : PartialPlant → List (List ℕ) → PartialPlant → Type 0
LineStep q piece r = (line : List ℕ) × (piece ≡ line ∷ []) × Extends q line r

-- a text is over where no line is left and its `end` stands
abbrev pub IsEnded : PartialPlant → List (List ℕ) → Type 0
IsEnded q rest = (rest ≡ []) × (q.ended ≡ true)

-- a part is closed by its last line, and holds this plant
pub record IsWhole (q : PartialPlant) (p : Description) : Type 0 where
  pub closed : q.ended ≡ true
  pub version : q.version ≡ Some p.version
  pub states : q.states ≡ p.states
  pub inputs : q.inputs ≡ p.inputs
  pub noises : q.noises ≡ p.noises
  pub equations : q.equations ≡ p.equations
  pub targets : q.targets ≡ p.targets
  pub obstacles : q.obstacles ≡ p.obstacles
  pub goal : q.goal ≡ Some p.goal

-- the bytes are a text of the plant
abbrev pub Spells : List ℕ → Description → Type 0
Spells bytes p = (q : PartialPlant) × IsReading LineStep IsEnded nothing_yet (lines_of bytes) q [] × IsWhole q p

-- the n-th line, from 1, is the first that is refused; where the text ends before its `end`, n is one more than its lines
abbrev pub IsLineRefused : List (List ℕ) → ℕ → Type 0
IsLineRefused lines n = IsFirstRefused LineStep IsEnded nothing_yet lines n
