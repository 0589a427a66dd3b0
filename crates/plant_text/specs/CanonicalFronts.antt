-- The canonical text of a plant at the front of some bytes, and the first line that isn't of one.
use Rattle.std.specs.Prelude.{◌≡◌, ℕ, ◌≤◌, true, List, [], ◌∷◌, ◌++◌, length, take, codes}
use Rattle.plant_text.specs.declared.plant_fault.PlantFault.{PlantFault}
use Rattle.plant_text.specs.declared.plant_fault.PlantFault.TheVariants as faults
use Rattle.plant_record.specs.Description.{Description}
use Rattle.plant_record.specs.Plants.{IsPlant}
use Rattle.plant_record.specs.Limits.{Exceeds}
use Rattle.plant_record.specs.Spelling.{version_word, goal_word}
use Rattle.base.specs.Lines.{line}
use Rattle.plant_writing.specs.CanonicalText.{text_of, state_line, input_line, noise_line, equation_line, box_line}
use Rattle.plant_reading.specs.Statements.{Statement, Version, State, Input, Noise, Next, Target, Obstacle, Goal, End}
use Rattle.plant_text.specs.Grammar.{PartialPlant, nothing_yet, names_in, IsStated}
use Rattle.text_pieces.specs.Steps.{IsFirstRefused}

-- a statement's line in the canonical text, where the variables have these names and the first n are states
abbrev pub statement_line : List (List ℕ) → ℕ → Statement → List ℕ
statement_line names n (Version v) = line (codes "plant" ∷ version_word v ∷ [])
statement_line names n (State s) = state_line s
statement_line names n (Input i) = input_line i
statement_line names n (Noise w) = noise_line w
statement_line names n (Next name e) = equation_line names name e
statement_line names n (Target b) = box_line (codes "target") n b
statement_line names n (Obstacle b) = box_line (codes "obstacle") n b
statement_line names n (Goal kind) = line (codes "goal" ∷ goal_word kind ∷ [])
statement_line names n End = line (codes "end" ∷ [])

-- all targets stand before all obstacles
abbrev pub IsInOrder : PartialPlant → Statement → Type 0
IsInOrder q (Target b) = q.obstacles ≡ []
IsInOrder q statement = Unit {0}

-- A line states something in its canonical spelling, and in the canonical order.
pub record ExtendsCanonically (q : PartialPlant) (words : List ℕ) (r : PartialPlant) : Type 0 where
  pub stated : IsStated q words r
  pub spelling : words ++ codes "\n" ≡ statement_line (names_in q) (length q.states) stated.statement
  pub order : IsInOrder q stated.statement

-- a piece of the bytes is such a line with its line feed
abbrev pub FrontStep : PartialPlant → List ℕ → PartialPlant → Type 0
FrontStep q piece r = (line : List ℕ) × (piece ≡ line ++ codes "\n") × ExtendsCanonically q line r

-- the front is over after its line `end`
abbrev pub IsFrontEnded : PartialPlant → List ℕ → Type 0
IsFrontEnded q rest = q.ended ≡ true

-- the n-th line, from 1, is the first that isn't one of a canonical plant text, or that has no line feed, or that isn't there
abbrev pub IsFirstRefusedAtFront : List ℕ → ℕ → Type 0
IsFirstRefusedAtFront bytes n = IsFirstRefused FrontStep IsFrontEnded nothing_yet bytes n

-- the first so many bytes are the canonical text of a plant
pub record IsFront (bytes : List ℕ) (p : Description) (count : ℕ) : Type 0 where
  pub plant : IsPlant p
  pub within : count ≤ length bytes
  pub text : take count bytes ≡ text_of p

-- why no plant is read at the front
abbrev pub IsFrontRefusedFor : List ℕ → PlantFault → Type 0
IsFrontRefusedFor bytes (faults.Malformed line) = IsFirstRefusedAtFront bytes line
IsFrontRefusedFor bytes (faults.Limit what) = (p : Description) × (count : ℕ) × IsFront bytes p count × Exceeds p what
IsFrontRefusedFor bytes faults.Memory = ⊥
