-- What a text that was written for a plant's bytes, and read again, promises of its loops. A kind of loops is a relation: the text
-- that is held, the state where a loop begins, its samples, and the state to which they lead.
use Rattle.std.specs.Prelude.{◌≡◌, ℕ, ◌+◌, ◌-◌, ◌<◌, ◌≤◌, ℤ, pos, List, length, take}
use Rattle.std.specs.List.{Any}
use Rattle.plant_record.specs.declared.aims.GoalKind.{GoalKind}
use Rattle.plant_record.specs.Description.{Description}
use Rattle.plant_record.specs.States.{LiesInSome, IsClear}
use Rattle.plant_text.specs.Grammar.{Spells}
use Rattle.text_control.specs.Texts.{TextModel, IsReadFrom}
use Rattle.text_control.specs.Control.{AreSized, EncodesReply, IsRank}
use Rattle.text_control.specs.Visits.{with_turn}
use Rattle.text_control.specs.Loops.{AlwaysAnswers}
use Rattle.synth_run.specs.Headline.{IsTableFor, IsStayTableFor, IsPatrolTableFor}

-- this holds of each plant with the goal, and of what is read from its table
abbrev pub OfTables : GoalKind → (Description → TextModel → Type 0) → Type 0
OfTables goal Holds = (p : Description) (bytes text : List ℕ) (t : TextModel) → Spells bytes p → p.goal ≡ goal → IsTableFor bytes text → IsReadFrom text t → Holds p t

-- of each plant, and of what is read from its text of reach and stay
abbrev pub OfStayTexts : (Description → TextModel → Type 0) → Type 0
OfStayTexts Holds = (p : Description) (bytes text : List ℕ) (t : TextModel) → Spells bytes p → IsStayTableFor bytes text → IsReadFrom text t → Holds p t

-- of each plant, and of what is read from its text of a patrol
abbrev pub OfPatrolTexts : (Description → TextModel → Type 0) → Type 0
OfPatrolTexts Holds = (p : Description) (bytes text : List ℕ) (t : TextModel) → Spells bytes p → IsPatrolTableFor bytes text → IsReadFrom text t → Holds p t

-- every answer at the state, with room for the inputs, is that it has come to the targets
abbrev pub AlwaysArrived : TextModel → List ℤ → Type 0
AlwaysArrived t x = (before after : List ℤ) (number : ℤ) → AreSized t x before → EncodesReply t x before after number → number ≡ pos 0

-- On every loop from a state of rank k each state is off the obstacles, and with each sample its rank has fallen. Above rank 0 the
-- state has an answer. At rank 0 it lies in a target, and each answer is that it has come there: so a loop that goes on while there
-- are values to apply ends within k samples, in a target.
abbrev pub LoopsEnd : {Sample : Type 0} → (TextModel → List ℤ → List Sample → List ℤ → Type 0) → Description → TextModel → Type 0
LoopsEnd {Sample = Sample} Loop p t =
    (t.plant ≡ p)
    × ((x y : List ℤ) (k : ℕ) (samples : List Sample) → IsRank t x k → Loop t x samples y
    → IsClear p y × ((n : ℕ) × IsRank t y n × (n + length samples ≤ k) × (0 < n → AlwaysAnswers t y) × (n ≡ 0 → LiesInSome p p.targets y × AlwaysArrived t y)))

-- On every loop from a state with a row each state is off the obstacles and has an answer, and it has a row, so that the loop can go
-- on.
abbrev pub LoopsKeep : {Sample : Type 0} → (TextModel → List ℤ → List Sample → List ℤ → Type 0) → Description → TextModel → Type 0
LoopsKeep {Sample = Sample} Loop p t =
    (t.plant ≡ p)
    × ((x y : List ℤ) (k : ℕ) (samples : List Sample) → IsRank t x k → Loop t x samples y → IsClear p y × AlwaysAnswers t y × ((n : ℕ) × IsRank t y n))

-- On every loop from a state of rank k each state is off the obstacles and has an answer, with each sample its rank has fallen or is
-- 0, and from the k-th sample on it lies in a target.
abbrev pub LoopsSettle : {Sample : Type 0} → (TextModel → List ℤ → List Sample → List ℤ → Type 0) → Description → TextModel → Type 0
LoopsSettle {Sample = Sample} Loop p t =
    (t.plant ≡ p)
    × ((x y : List ℤ) (k : ℕ) (samples : List Sample) → IsRank t x k → Loop t x samples y
    → IsClear p y × AlwaysAnswers t y × (k ≤ length samples → LiesInSome p p.targets y) × ((n : ℕ) × IsRank t y n × (n ≤ k - length samples)))

-- On every loop from a state of rank k for turn j, each state is off the obstacles and has an answer for its turn, and within k
-- samples turn j ends. What is held then is the same text at its turn, and the state there has a rank for it: so this holds of the
-- rest of the loop too.
abbrev pub LoopsPatrol : {Sample : Type 0} → (TextModel → List ℤ → List Sample → TextModel → List ℤ → Type 0) → (TextModel → Sample → Type 0) → Description → TextModel → Type 0
LoopsPatrol {Sample = Sample} Loop Ends p t =
    (t.plant ≡ p)
    × ((j : ℕ) (x y : List ℤ) (k : ℕ) (samples : List Sample) (u : TextModel) → IsRank (with_turn t j) x k → Loop (with_turn t j) x samples u y
    → IsClear p y × AlwaysAnswers u y × (k ≤ length samples → Any (Ends (with_turn t j)) (take k samples)) × (u ≡ with_turn t u.turn) × ((n : ℕ) × IsRank u y n))
