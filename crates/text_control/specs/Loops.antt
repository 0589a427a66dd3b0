-- Loops that apply at each sample what is answered at the state: the plant makes a step under the values and a noise.
use Rattle.std.specs.Prelude.{◌≡◌, ℤ, pos, List, [], ◌∷◌, ◌++◌, length, map, take}
use Rattle.fixed_expr.specs.Value.{value_of}
use Rattle.plant_record.specs.Description.{Description}
use Rattle.plant_record.specs.Steps.{IsNoise}
use Rattle.text_control.specs.Texts.{TextModel}
use Rattle.text_control.specs.Control.{AreSized, EncodesReply}
use Rattle.text_control.specs.Visits.{EncodesVisit}

-- One sample: the state, the values that are answered there, and the noise.
pub record LoopSample : Type 0 where
  pub state : List ℤ
  pub values : List ℤ
  pub noise : List ℤ

-- the next state where the values are applied: the equations' values, all taken at the old state
abbrev pub moved_by : Description → LoopSample → List ℤ
moved_by p s = map (λ e. value_of e (take (length p.states) s.state ++ s.values ++ take (length p.noises) s.noise)) p.equations

-- the answer at a state is to apply these values
abbrev pub Answers : TextModel → List ℤ → List ℤ → Type 0
Answers t x values = (before : List ℤ) × EncodesReply t x before values (pos 1)

-- every answer at the state, with room for the inputs, is to apply some values
abbrev pub AlwaysAnswers : TextModel → List ℤ → Type 0
AlwaysAnswers t x = (before after : List ℤ) (number : ℤ) → AreSized t x before → EncodesReply t x before after number → number ≡ pos 1

-- samples lead from one state to another, each by the answer at its state
abbrev pub IsLoop : TextModel → List ℤ → List LoopSample → List ℤ → Type 0
IsLoop t x [] y = y ≡ x
IsLoop t x (s ∷ samples) y = (s.state ≡ x) × Answers t x s.values × IsNoise t.plant.noises s.noise × IsLoop t (moved_by t.plant s) samples y

-- the same where each state but the first is visited before it is asked for, which may begin the next turn
abbrev pub IsPatrolLoop : TextModel → List ℤ → List LoopSample → TextModel → List ℤ → Type 0
IsPatrolLoop t x [] u y = (u ≡ t) × (y ≡ x)
IsPatrolLoop t x (s ∷ samples) u y =
    (s.state ≡ x) × Answers t x s.values × IsNoise t.plant.noises s.noise
    × ((m : TextModel) × (number : ℤ) × EncodesVisit t (moved_by t.plant s) m number × IsPatrolLoop m (moved_by t.plant s) samples u y)
