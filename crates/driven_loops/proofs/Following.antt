-- A state that the plant's equations lead to lies in its box.
use Rattle.std.proofs.Common.{inl, inr, ◌≡◌, ℕ, ◌<◌, List, [], ◌∷◌, map, Option, Some, refl, sym, subst, ◌∙◌}
use Rattle.std.specs.Prelude.{ℤ}
use Rattle.std.specs.List.{Contains}
use Rattle.std.proofs.lemmas.List.{length-map}
use Rattle.game_core.specs.declared.game.Row.{Row}
use Rattle.game_core.specs.Game.{Game}
use Rattle.grid_quantiser.specs.declared.boxes.CellBox.{CellBox}
use Rattle.grid_quantiser.specs.Cells.{IsInDomain, cell_of}
use Rattle.grid_quantiser.specs.CellBoxes.{cells_between}
use Rattle.grid_quantiser.proofs.Domain.{cell_below}
use Rattle.grid_quantiser.proofs.MeetingCells.{meeting_corners}
use Rattle.plant_record.specs.declared.aims.GoalKind.{GoalKind}
use Rattle.plant_record.specs.declared.aims.GoalKind.TheVariants.{Reach, Keep}
use Rattle.plant_record.specs.Description.{Description, axes_of, vector_of, vectors_of}
use Rattle.plant_record.specs.Plants.{IsPlant}
use Rattle.plant_record.specs.Soundness.{IsSound}
use Rattle.plant_record.specs.Steps.{IsNoise}
use Rattle.plant_record.proofs.lemmas.SoundPlants.{sound}
use Rattle.successor_box.specs.SuccessorBoxes.{low_corner, high_corner, IsEnabledAt, IsBoxOf}
use Rattle.successor_box.proofs.Enabled.{box_successors, corners_ordered}
use Rattle.successor_box.proofs.Steps.{step_among}
use Rattle.controller_table.specs.Choice.{HasRowAt}
use Rattle.controller_table.proofs.RowsAtStates.{in_cell}
use Rattle.controller_table.specs.declared.text_kind.TextKind.{TextKind}
use Rattle.text_control.specs.Texts.{TextModel, due_rows, IsReadFrom}
use Rattle.text_control.specs.Loops.{LoopSample, moved_by, Answers, IsLoop, IsPatrolLoop}
use Rattle.text_control.specs.Visits.{with_turn, IsVisit}
use Rattle.text_control.specs.declared.visits.Visit.{Visit}
use Rattle.text_control.specs.declared.visits.Visit.TheVariants.{Next, Same, WrongSize}
use Rattle.synth_run.specs.Headline.{IsTableFor, IsStayTableFor, IsPatrolTableFor}
use Rattle.text_control.specs.Followed.{IsInItsBox}
use Rattle.driven_loops.specs.Followed.{followed_of, IsFollowedLoop, IsFollowedPatrolLoop}
use Rattle.driven_loops.specs.FollowedLaws.{LoopsAreFollowed}
use Rattle.text_control.proofs.Answering.{chosen, moves}
use Rattle.driven_loops.proofs.ReadBack.{Holds, says, holds_table, holds_stay, holds_patrol}
use Rattle.driven_loops.proofs.LeadingOn.{AppliesEnabled, LeadOn, applies_enabled}
use Rattle.driven_loops.proofs.Ending.{falling_rows, kept_rows}
use Rattle.driven_loops.proofs.Settling.{settling_rows}
use Rattle.driven_loops.proofs.Patrolling.{patrol_rows}

in_its_box : (p : Description) (s : LoopSample) (u : ℕ) → IsPlant p → IsInDomain (axes_of p) s.state → u < vectors_of p.inputs → IsEnabledAt p (cell_of (axes_of p) s.state) u → s.values ≡ vector_of p.inputs u → IsNoise p.noises s.noise → IsInItsBox p (followed_of p s)
in_its_box p s u plant inside below enabled are noise =
    let c : ℕ = cell_of (axes_of p) s.state in
    let ok : IsSound p = sound p plant in
    let box : CellBox = record { first = cell_of (axes_of p) (low_corner p c u); last = cell_of (axes_of p) (high_corner p c u) } in
    let is_box : IsBoxOf p c u (Some box) = record {
      inside = ((λ some. enabled), (λ on. refl));
      corners = meeting_corners (axes_of p) (low_corner p c u) (high_corner p c u) ok.axes.each (corners_ordered p c u ok).0 enabled;
    } in
    let step = step_among p c u s.state s.noise ok (cell_below (axes_of p) s.state ok.axes.each inside) (inside, refl) noise enabled in
    let there = sym (moves p s u are) in
    record {
      input = u;
      below = below;
      are = are;
      box = box;
      is_box = is_box;
      inside = subst (λ (z : List ℤ). IsInDomain (axes_of p) z) there step.0;
      among = subst (λ (z : List ℤ). Contains (cells_between (axes_of p) box.first box.last) (cell_of (axes_of p) z)) there (step.1 (cells_between (axes_of p) box.first box.last) (box_successors p c u (Some box) is_box));
    }

pub sample_in_box : (t : TextModel) → IsPlant t.plant → AppliesEnabled t → (s : LoopSample) (x : List ℤ) → s.state ≡ x → Answers t x s.values → IsNoise t.plant.noises s.noise → IsInItsBox t.plant (followed_of t.plant s)
sample_in_box t plant on s x at answer noise =
    let c = chosen t x s.values answer in
    let has : HasRowAt t.plant (due_rows t) s.state c.row = subst (λ (z : List ℤ). HasRowAt t.plant (due_rows t) z c.row) (sym at) c.has in
    let enabled = on s.state c.row c.input has c.applies in
    in_its_box t.plant s c.input plant (in_cell t.plant (due_rows t) s.state c.row has).0 enabled.0 enabled.1 c.are noise

followed : (t : TextModel) → IsPlant t.plant → AppliesEnabled t → (samples : List LoopSample) (x y : List ℤ) → IsLoop t x samples y → IsFollowedLoop t x (map (followed_of t.plant) samples) y
followed t plant on [] x y loop = loop
followed t plant on (s ∷ samples) x y loop = (loop.0, loop.1, sample_in_box t plant on s x loop.0 loop.1 loop.2, followed t plant on samples (moved_by t.plant s) y loop.3)

-- a visit changes no more than the turn
pub turn_after_visit : (t : TextModel) (j : ℕ) (x : List ℤ) (m : TextModel) (visit : Visit) → IsVisit (with_turn t j) x m visit → (i : ℕ) × (m ≡ with_turn t i)
turn_after_visit t j x m Next is = (_, is.2)
turn_after_visit t j x m Same is = (j, is.2)
turn_after_visit t j x m WrongSize is = (j, is.1)

followed_patrol : (t : TextModel) → IsPlant t.plant → ((j : ℕ) → AppliesEnabled (with_turn t j)) → (samples : List LoopSample) (j : ℕ) (x y : List ℤ) (u : TextModel) → IsPatrolLoop (with_turn t j) x samples u y
    → IsFollowedPatrolLoop (with_turn t j) x (map (followed_of t.plant) samples) u y
followed_patrol t plant on [] j x y u loop = loop
followed_patrol t plant on (s ∷ samples) j x y u loop =
    let m : TextModel = loop.3.0 in
    let visit = loop.3.2 in
    let turn = turn_after_visit t j (moved_by t.plant s) m visit.0 visit.2 in
    let rest = followed_patrol t plant on samples turn.0 (moved_by t.plant s) y u (subst (λ (n : TextModel). IsPatrolLoop n (moved_by t.plant s) samples u y) turn.1 loop.3.3) in (
      loop.0,
      loop.1,
      sample_in_box (with_turn t j) plant (on j) s x loop.0 loop.1 loop.2,
      length-map t.plant.equations _ ∙ plant.one_each,
      (m, loop.3.1, visit, subst (λ (n : TextModel). IsFollowedPatrolLoop n (moved_by t.plant s) (map (followed_of t.plant) samples) u y) (sym turn.1) rest),
    )

-- ---- texts that were written

-- what a text that was written applies at each row is enabled, in the plant that the bytes spell
abbrev pub IsEnabledText : Description → TextModel → Type 0
IsEnabledText p t = (t.plant ≡ p) × IsPlant t.plant × AppliesEnabled t

-- the same where any turn of a patrol is due
abbrev pub IsEnabledPatrol : Description → TextModel → Type 0
IsEnabledPatrol p t = (t.plant ≡ p) × IsPlant t.plant × ((j : ℕ) → AppliesEnabled (with_turn t j))

enabled_text : {kind : TextKind} {IsSolution : Game → List (List (Option Row)) → Type 0} {Next : ℕ → ℕ → Type 0} (p : Description) (t : TextModel) (h : Holds kind IsSolution p t) → LeadOn (says kind p h.turns) Next → IsEnabledText p t
enabled_text p t h rows = subst (IsEnabledText p) (sym h.is) (refl, h.plant, applies_enabled rows)

table_by_goal : (bytes text : List ℕ) (t : TextModel) → IsReadFrom text t → (given : IsTableFor bytes text) (goal : GoalKind) → given.0.goal ≡ goal → IsEnabledText given.0 t
table_by_goal bytes text t read given Reach goal = let h = holds_table given.0 bytes text t given.1.spells Reach goal given read in enabled_text given.0 t h (falling_rows given.0 t goal h)
table_by_goal bytes text t read given Keep goal = let h = holds_table given.0 bytes text t given.1.spells Keep goal given read in enabled_text given.0 t h (kept_rows given.0 t goal h)

pub table_enabled : (bytes text : List ℕ) (t : TextModel) → IsReadFrom text t → (given : IsTableFor bytes text) → IsEnabledText given.0 t
table_enabled bytes text t read given = table_by_goal bytes text t read given given.0.goal refl

pub stay_text_enabled : (bytes text : List ℕ) (t : TextModel) → IsReadFrom text t → (given : IsStayTableFor bytes text) → IsEnabledText given.0 t
stay_text_enabled bytes text t read given = let h = holds_stay given.0 bytes text t given.1.spells given read in enabled_text given.0 t h (settling_rows given.0 t h)

pub patrol_enabled : (bytes text : List ℕ) (t : TextModel) → IsReadFrom text t → (given : IsPatrolTableFor bytes text) → IsEnabledPatrol given.0 t
patrol_enabled bytes text t read given =
    let h = holds_patrol given.0 bytes text t given.1.spells given read in
    subst (IsEnabledPatrol given.0) (sym h.is) (refl, h.plant, λ j. applies_enabled (patrol_rows given.0 t h j))

pub loops_are_followed : LoopsAreFollowed
loops_are_followed bytes text t read = (
  λ given x y samples loop. elim given [
    | inl table ↦ let e = table_enabled bytes text t read table in followed t e.1 e.2 samples x y loop
    | inr stay ↦ let e = stay_text_enabled bytes text t read stay in followed t e.1 e.2 samples x y loop
  ],
  λ given j x y samples u loop. let e = patrol_enabled bytes text t read given in followed_patrol t e.1 e.2 samples j x y u loop,
)
