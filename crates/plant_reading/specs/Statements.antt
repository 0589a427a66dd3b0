-- What one line of a plant text states.
use Rattle.std.specs.Prelude.{◌≡◌, ℕ, List, [], ◌∷◌, map, codes}
use Rattle.std.specs.List.{flat_map}
use Rattle.std.specs.Fmt.{signed_decimal}
use Rattle.fixed_expr.specs.Expression.{Expression}
use Rattle.plant_record.specs.declared.variables.StateVariable.{StateVariable}
use Rattle.plant_record.specs.declared.variables.InputVariable.{InputVariable}
use Rattle.plant_record.specs.declared.variables.NoiseVariable.{NoiseVariable}
use Rattle.plant_record.specs.declared.aims.StateBox.{StateBox}
use Rattle.plant_record.specs.declared.aims.GoalKind.{GoalKind}
use Rattle.plant_record.specs.declared.version.PlantVersion.{PlantVersion}
use Rattle.plant_record.specs.Variables.{IsStateVariable, IsInputVariable, IsNoiseVariable}
use Rattle.plant_record.specs.StateBoxes.{IsStateBox}
use Rattle.plant_record.specs.Spelling.{version_word, end_words, goal_word}
use Rattle.line_words.specs.Tokens.{tokens_of}
use Rattle.expression_reading.specs.SyntaxTrees.{AreTokensOf}

-- what one line states
pub data Statement : Type 0 where
  Version : (v : PlantVersion) → Statement
  State : (s : StateVariable) → Statement
  Input : (i : InputVariable) → Statement
  Noise : (w : NoiseVariable) → Statement
  Next : (name : List ℕ) (e : Expression) → Statement
  Target : (b : StateBox) → Statement
  Obstacle : (b : StateBox) → Statement
  Goal : (kind : GoalKind) → Statement
  End : Statement

-- the words of a line state it, where the variables have these names and the first n of them are states
abbrev pub States : List (List ℕ) → ℕ → List (List ℕ) → Statement → Type 0
States names n words (Version v) = words ≡ codes "plant" ∷ version_word v ∷ []
States names n words (State s) =
    (words ≡ codes "state" ∷ s.name ∷ signed_decimal s.low ∷ signed_decimal s.high ∷ signed_decimal s.width ∷ []) × IsStateVariable s
States names n words (Input i) = (words ≡ codes "input" ∷ i.name ∷ map signed_decimal i.values) × IsInputVariable i
States names n words (Noise w) =
    (words ≡ codes "noise" ∷ w.name ∷ signed_decimal w.low ∷ signed_decimal w.high ∷ []) × IsNoiseVariable w
States names n words (Next name e) =
    (rest : List (List ℕ)) × (words ≡ codes "next" ∷ name ∷ codes "=" ∷ rest) × AreTokensOf names (flat_map tokens_of rest) e
States names n words (Target b) = (words ≡ codes "target" ∷ end_words n b.low b.high) × IsStateBox n b
States names n words (Obstacle b) = (words ≡ codes "obstacle" ∷ end_words n b.low b.high) × IsStateBox n b
States names n words (Goal kind) = words ≡ codes "goal" ∷ goal_word kind ∷ []
States names n words End = words ≡ codes "end" ∷ []
