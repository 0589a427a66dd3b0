-- From the bytes of a plant to a loop of answers, whatever moves the plant: nothing is asked of its equations and noises, but at
-- each sample that the next state lies in its box.
use Rattle.std.specs.Prelude.{◌≡◌, ◌⊎◌, ℕ, ◌<◌, ℤ, List, map, Some, ◌↔◌}
use Rattle.grid_quantiser.specs.declared.boxes.CellBox.{CellBox}
use Rattle.grid_quantiser.specs.Cells.{IsInDomain, cell_of}
use Rattle.plant_record.specs.declared.aims.GoalKind.TheVariants.{Reach, Keep}
use Rattle.plant_record.specs.Description.{Description, axes_of, vector_of, vectors_of}
use Rattle.plant_record.specs.Plants.{IsPlant}
use Rattle.successor_box.specs.SuccessorBoxes.{IsBoxOf}
use Rattle.text_control.specs.Texts.{TextModel, IsReadFrom}
use Rattle.text_control.specs.Visits.{with_turn}
use Rattle.text_control.specs.Loops.{LoopSample, IsLoop, IsPatrolLoop}
use Rattle.synth_run.specs.Headline.{IsTableFor, IsStayTableFor, IsPatrolTableFor}
use Rattle.driven_loops.specs.LoopPromises.{OfTables, OfStayTexts, OfPatrolTexts, LoopsEnd, LoopsKeep, LoopsSettle, LoopsPatrol}
use Rattle.text_control.specs.Followed.{FollowedSample, IsInItsBox}
use Rattle.driven_loops.specs.Followed.{followed_of, LiesBetween, IsFollowedLoop, IsFollowedPatrolLoop, FollowedEndsTurn}

-- with `goal reach` such loops end in a target
abbrev pub FollowedTablesEnd : Type 0
FollowedTablesEnd = OfTables Reach (LoopsEnd IsFollowedLoop)

-- with `goal keep` they stay off the obstacles
abbrev pub FollowedTablesKeep : Type 0
FollowedTablesKeep = OfTables Keep (LoopsKeep IsFollowedLoop)

-- with the text of reach and stay they settle in the targets
abbrev pub FollowedStayTextsSettle : Type 0
FollowedStayTextsSettle = OfStayTexts (LoopsSettle IsFollowedLoop)

-- with the text of a patrol they come into the targets in turn
abbrev pub FollowedPatrolTextsGoOn : Type 0
FollowedPatrolTextsGoOn = OfPatrolTexts (LoopsPatrol IsFollowedPatrolLoop FollowedEndsTurn)

-- Every loop under the plant's equations and noises within their ranges is such a loop: the laws above ask for no more than
-- those of `specs/Laws.antt`.
abbrev pub LoopsAreFollowed : Type 0
LoopsAreFollowed =
    (bytes text : List ℕ) (t : TextModel) → IsReadFrom text t
    → (IsTableFor bytes text ⊎ IsStayTableFor bytes text → (x y : List ℤ) (samples : List LoopSample) → IsLoop t x samples y → IsFollowedLoop t x (map (followed_of t.plant) samples) y)
    × (IsPatrolTableFor bytes text → (j : ℕ) (x y : List ℤ) (samples : List LoopSample) (u : TextModel) → IsPatrolLoop (with_turn t j) x samples u y
    → IsFollowedPatrolLoop (with_turn t j) x (map (followed_of t.plant) samples) u y)

-- Whether a next state lies in its box is told by comparing indices: those of its cell with those of the corners of the box, under
-- any input vector with the values.
abbrev pub IndicesTell : Type 0
IndicesTell =
    (p : Description) (s : FollowedSample) (input : ℕ) (box : CellBox) → IsPlant p → input < vectors_of p.inputs → s.values ≡ vector_of p.inputs input → IsBoxOf p (cell_of (axes_of p) s.state) input (Some box)
    → IsInItsBox p s ↔ (IsInDomain (axes_of p) s.next × LiesBetween (axes_of p) box.first box.last (cell_of (axes_of p) s.next))
