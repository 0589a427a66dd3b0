-- The canonical text of a plant: one line for each thing, one space between words, no comment.
use Rattle.std.specs.Prelude.{ℕ, List, [], ◌∷◌, ◌++◌, length, map, codes}
use Rattle.std.specs.List.{flat_map}
use Rattle.std.specs.Fmt.{signed_decimal}
use Rattle.fixed_expr.specs.Expression.{Expression}
use Rattle.plant_record.specs.declared.variables.StateVariable.{StateVariable}
use Rattle.plant_record.specs.declared.variables.InputVariable.{InputVariable}
use Rattle.plant_record.specs.declared.variables.NoiseVariable.{NoiseVariable}
use Rattle.plant_record.specs.declared.aims.StateBox.{StateBox}
use Rattle.plant_record.specs.Description.{Description, names_of}
use Rattle.plant_record.specs.Spelling.{version_word, end_words, goal_word}
use Rattle.base.specs.Lines.{line}
use Rattle.plant_writing.specs.ExpressionText.{expression_text}

-- the canonical line of a state
abbrev pub state_line : StateVariable → List ℕ
state_line s = line (codes "state" ∷ s.name ∷ signed_decimal s.low ∷ signed_decimal s.high ∷ signed_decimal s.width ∷ [])

-- the canonical line of an input variable
abbrev pub input_line : InputVariable → List ℕ
input_line i = line (codes "input" ∷ i.name ∷ map signed_decimal i.values)

-- the canonical line of a noise
abbrev pub noise_line : NoiseVariable → List ℕ
noise_line w = line (codes "noise" ∷ w.name ∷ signed_decimal w.low ∷ signed_decimal w.high ∷ [])

-- the canonical line of an equation
abbrev pub equation_line : List (List ℕ) → List ℕ → Expression → List ℕ
equation_line names name e = line (codes "next" ∷ name ∷ codes "=" ∷ expression_text names 1 e ∷ [])

-- the canonical lines of equations, each with the name of its state
abbrev pub equation_lines : List (List ℕ) → List StateVariable → List Expression → List ℕ
equation_lines names (s ∷ states) (e ∷ equations) = equation_line names s.name e ++ equation_lines names states equations
equation_lines names _ _ = []

-- the canonical line of a target or an obstacle
abbrev pub box_line : List ℕ → ℕ → StateBox → List ℕ
box_line keyword n b = line (keyword ∷ end_words n b.low b.high)

-- the canonical text
abbrev pub text_of : Description → List ℕ
text_of p =
    line (codes "plant" ∷ version_word p.version ∷ [])
    ++ flat_map state_line p.states
    ++ flat_map input_line p.inputs
    ++ flat_map noise_line p.noises
    ++ equation_lines (names_of p) p.states p.equations
    ++ flat_map (box_line (codes "target") (length p.states)) p.targets
    ++ flat_map (box_line (codes "obstacle") (length p.states)) p.obstacles
    ++ line (codes "goal" ∷ goal_word p.goal ∷ [])
    ++ line (codes "end" ∷ [])
