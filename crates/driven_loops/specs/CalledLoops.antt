-- Loops by what a caller in C is told: the definitions of the library's clauses, sample after sample, whatever moved the plant.
use Rattle.std.specs.Prelude.{◌≡◌, ◌⊎◌, ℕ, ℤ, pos, List, [], ◌∷◌, Option, Some}
use Rattle.std.specs.List.{All}
use Rattle.text_control.specs.Texts.{TextModel, IsReadFrom}
use Rattle.text_control.specs.Control.{IsRank}
use Rattle.text_control.specs.Visits.{with_turn}
use Rattle.text_control.specs.Loops.{LoopSample, moved_by, IsLoop, IsPatrolLoop}
use Rattle.text_control.specs.Followed.{FollowedSample}
use Rattle.text_control.specs.Calls.{IsOpened, IsReplied, IsVisited, IsRanked, IsFollowed}
use Rattle.synth_run.specs.Headline.{IsTableFor, IsStayTableFor, IsPatrolTableFor}
use Rattle.driven_loops.specs.Followed.{IsFollowedLoop, IsFollowedPatrolLoop}

-- gaffcurrant_control answers 1 at the state and writes the values, and gaffcurrant_follows answers 1 of the next state
abbrev pub IsCalledSample : Option TextModel → FollowedSample → Type 0
IsCalledSample held s = ((before : List ℤ) × IsReplied held s.state before s.values (pos 1)) × IsFollowed held s.state s.values s.next (pos 1)

-- such samples lead from one state to another
abbrev pub IsCalledLoop : Option TextModel → List ℤ → List FollowedSample → List ℤ → Type 0
IsCalledLoop held x [] y = y ≡ x
IsCalledLoop held x (s ∷ samples) y = (s.state ≡ x) × IsCalledSample held s × IsCalledLoop held s.next samples y

-- the same where gaffcurrant_visit is called at each state but the first, whatever it answers
abbrev pub IsCalledPatrolLoop : Option TextModel → List ℤ → List FollowedSample → Option TextModel → List ℤ → Type 0
IsCalledPatrolLoop held x [] last y = (last ≡ held) × (y ≡ x)
IsCalledPatrolLoop held x (s ∷ samples) last y =
    (s.state ≡ x) × IsCalledSample held s
    × ((after : Option TextModel) × (turn : ℕ) × (number : ℤ) × IsVisited held s.next after turn number × IsCalledPatrolLoop after s.next samples last y)

-- What C is told is what the laws of `specs/FollowedLaws.antt` ask for. Where gaffcurrant_open answers 0, what was read from the bytes
-- is held. Where gaffcurrant_rank answers 1 the state has the rank. Loops of the answers 1 are followed loops.
abbrev pub CallsAreFollowed : Type 0
CallsAreFollowed =
    ((bytes : List ℕ) (held : Option TextModel) (line : ℕ) → IsOpened bytes held (pos 0) line → (t : TextModel) × (held ≡ Some t) × IsReadFrom bytes t)
    × ((t : TextModel) (x : List ℤ) (k : ℕ) → IsRanked (Some t) x k (pos 1) → IsRank t x k)
    × ((t : TextModel) (x y : List ℤ) (samples : List FollowedSample) → IsCalledLoop (Some t) x samples y → IsFollowedLoop t x samples y)
    × ((t : TextModel) (x y : List ℤ) (samples : List FollowedSample) (last : Option TextModel) → IsCalledPatrolLoop (Some t) x samples last y
    → (u : TextModel) × (last ≡ Some u) × IsFollowedPatrolLoop t x samples u y)

-- whatever gaffcurrant_follows answers of the next state to which the plant's equations lead under the noise is 1
abbrev pub AlwaysFollows : TextModel → LoopSample → Type 0
AlwaysFollows t s = (number : ℤ) → IsFollowed (Some t) s.state s.values (moved_by t.plant s) number → number ≡ pos 1

-- There is no false alarm: of every sample of a loop under the plant's equations and noises within their ranges the answer is 1.
abbrev pub NoFalseAlarms : Type 0
NoFalseAlarms =
    (bytes text : List ℕ) (t : TextModel) → IsReadFrom text t
    → (IsTableFor bytes text ⊎ IsStayTableFor bytes text → (x y : List ℤ) (samples : List LoopSample) → IsLoop t x samples y → All (AlwaysFollows t) samples)
    × (IsPatrolTableFor bytes text → (j : ℕ) (x y : List ℤ) (samples : List LoopSample) (u : TextModel) → IsPatrolLoop (with_turn t j) x samples u y → All (AlwaysFollows t) samples)
