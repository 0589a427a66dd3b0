-- Loops that apply at each sample what is answered at the state, of a plant that need not obey its equations: each next state is
-- to lie in its box.
use Rattle.std.specs.Prelude.{◌≡◌, ℕ, ◌/◌, ◌%◌, ◌≤◌, ℤ, List, [], ◌∷◌, length}
use Rattle.grid_quantiser.specs.declared.axis.Axis.{Axis}
use Rattle.grid_quantiser.specs.Axes.{cells_of}
use Rattle.plant_record.specs.Description.{Description}
use Rattle.text_control.specs.Texts.{TextModel}
use Rattle.text_control.specs.Loops.{LoopSample, moved_by, Answers}
use Rattle.text_control.specs.Followed.{FollowedSample, IsInItsBox}
use Rattle.text_control.specs.Visits.{EndsTurnAt, EncodesVisit}

-- a sample under the plant's equations: the next state is the one that they lead to
abbrev pub followed_of : Description → LoopSample → FollowedSample
followed_of p s = record { state = s.state; values = s.values; next = moved_by p s }

-- in each state the index of a cell lies from that of a box's first cell to that of its last
abbrev pub LiesBetween : List Axis → ℕ → ℕ → ℕ → Type 0
LiesBetween [] first last c = Unit {0}
LiesBetween (a ∷ axes) first last c =
    (first / cells_of axes ≤ c / cells_of axes) × (c / cells_of axes ≤ last / cells_of axes) × LiesBetween axes (first % cells_of axes) (last % cells_of axes) (c % cells_of axes)

-- samples lead from one state to another, each by the answer at its state, and each next state lies in its box
abbrev pub IsFollowedLoop : TextModel → List ℤ → List FollowedSample → List ℤ → Type 0
IsFollowedLoop t x [] y = y ≡ x
IsFollowedLoop t x (s ∷ samples) y = (s.state ≡ x) × Answers t x s.values × IsInItsBox t.plant s × IsFollowedLoop t s.next samples y

-- the same where each state but the first is visited before it is asked for, which may begin the next turn; it has one number for
-- each state
abbrev pub IsFollowedPatrolLoop : TextModel → List ℤ → List FollowedSample → TextModel → List ℤ → Type 0
IsFollowedPatrolLoop t x [] u y = (u ≡ t) × (y ≡ x)
IsFollowedPatrolLoop t x (s ∷ samples) u y =
    (s.state ≡ x) × Answers t x s.values × IsInItsBox t.plant s × (length s.next ≡ length t.plant.states)
    × ((m : TextModel) × (number : ℤ) × EncodesVisit t s.next m number × IsFollowedPatrolLoop m s.next samples u y)

-- a sample that leads to an arrival of a turn, within its target
abbrev pub FollowedEndsTurn : TextModel → FollowedSample → Type 0
FollowedEndsTurn t s = EndsTurnAt t s.next
