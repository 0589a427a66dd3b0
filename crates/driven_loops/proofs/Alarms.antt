-- Where a plant obeys its equations C is told of each next state that it follows.
use Rattle.std.proofs.Common.{inl, inr, ◌≡◌, ℕ, List, [], ◌∷◌, length, refl, sym, ap, subst, ◌∙◌}
use Rattle.std.specs.Prelude.{ℤ, pos}
use Rattle.std.specs.List.{All}
use Rattle.std.proofs.lemmas.List.{length-map}
use Rattle.std.proofs.lemmas.List.Elements.{All-nil, All-cons}
use Rattle.grid_quantiser.specs.Cells.{IsInDomain}
use Rattle.plant_record.specs.Description.{Description, axes_of}
use Rattle.plant_record.specs.Plants.{IsPlant}
use Rattle.plant_record.specs.Steps.{IsNoise}
use Rattle.plant_record.proofs.lemmas.VariableValues.{vector_length}
use Rattle.successor_box.specs.Deviations.{HasNoOverflow}
use Rattle.controller_table.proofs.RowsAtStates.{in_cell}
use Rattle.text_control.specs.declared.reply.Reply.{Reply}
use Rattle.text_control.specs.declared.reply.Reply.TheVariants.{Apply, Arrived, NoRow}
use Rattle.text_control.specs.declared.reply.Reply.TheVariants as replies
use Rattle.text_control.specs.declared.follow.Follow.{Follow}
use Rattle.text_control.specs.declared.follow.Follow.TheVariants.{Inside, Outside, NoInput, WrongSizes, Overflow}
use Rattle.text_control.specs.Texts.{TextModel, due_rows}
use Rattle.text_control.specs.Control.{AreSized, IsReply, reply_number}
use Rattle.text_control.specs.Visits.{with_turn}
use Rattle.text_control.specs.Loops.{LoopSample, moved_by, Answers, IsLoop, IsPatrolLoop}
use Rattle.text_control.specs.Followed.{FollowedSample, IsInItsBox, IsSized, IsStep, IsFollow, follow_number}
use Rattle.driven_loops.specs.Followed.{followed_of}
use Rattle.driven_loops.specs.CalledLoops.{AlwaysFollows, NoFalseAlarms}
use Rattle.text_control.proofs.Answering.{chosen_by}
use Rattle.driven_loops.proofs.LeadingOn.{AppliesEnabled}
use Rattle.driven_loops.proofs.Following.{IsEnabledText, sample_in_box, turn_after_visit, table_enabled, stay_text_enabled, patrol_enabled}

-- an answer 1 says that there is a number for each state
sized_by : (t : TextModel) (x before values : List ℤ) (reply : Reply) → pos 1 ≡ reply_number reply → IsReply t x before values reply → AreSized t x before
sized_by t x before values Apply number is = is.0
sized_by t x before values Arrived number is = absurd (cc)
sized_by t x before values NoRow number is = absurd (cc)
sized_by t x before values replies.WrongSizes number is = absurd (cc)

only_inside : (p : Description) (s : FollowedSample) (f : Follow) → IsSized p s → IsStep p s → HasNoOverflow p → IsInItsBox p s → IsFollow p s f → follow_number f ≡ pos 1
only_inside p s Inside sized step fits box is = refl
only_inside p s Outside sized step fits box is = absurd (is.3 box)
only_inside p s NoInput sized step fits box is = absurd (is.1 step)
only_inside p s WrongSizes sized step fits box is = absurd (is sized)
only_inside p s Overflow sized step fits box is = absurd (is.2 fits)

sample_follows : (t : TextModel) → IsPlant t.plant → AppliesEnabled t → HasNoOverflow t.plant → (s : LoopSample) (x : List ℤ) → s.state ≡ x → Answers t x s.values → IsNoise t.plant.noises s.noise → AlwaysFollows t s
sample_follows t plant on fits s x at answer noise number told =
    let p = t.plant in
    let c = chosen_by t x answer.0 s.values answer.1.0 answer.1.1 answer.1.2 in
    let e = on x c.row c.input c.has c.applies in
    let state = sym at in
    let sized : IsSized p (followed_of p s) = record {
      states = ap (λ (z : List ℤ). length z) at ∙ (sized_by t x answer.0 s.values answer.1.0 answer.1.1 answer.1.2).states;
      inputs = ap (λ (z : List ℤ). length z) c.are ∙ vector_length p.inputs c.input;
      next_states = length-map p.equations _ ∙ plant.one_each;
    } in
    let step : IsStep p (followed_of p s) = (subst (λ (z : List ℤ). IsInDomain (axes_of p) z) state (in_cell p (due_rows t) x c.row c.has).0, (c.input, e.0, c.are)) in
    told.1 ∙ only_inside p (followed_of p s) told.0 sized step fits (sample_in_box t plant on s x at answer noise) told.2

follows : (t : TextModel) → IsPlant t.plant → AppliesEnabled t → HasNoOverflow t.plant → (samples : List LoopSample) (x y : List ℤ) → IsLoop t x samples y → All (AlwaysFollows t) samples
follows t plant on fits [] x y loop = All-nil (AlwaysFollows t)
follows t plant on fits (s ∷ samples) x y loop =
    All-cons (AlwaysFollows t) s samples (sample_follows t plant on fits s x loop.0 loop.1 loop.2) (follows t plant on fits samples (moved_by t.plant s) y loop.3)

follows_patrol : (t : TextModel) → IsPlant t.plant → ((j : ℕ) → AppliesEnabled (with_turn t j)) → HasNoOverflow t.plant → (samples : List LoopSample) (j : ℕ) (x y : List ℤ) (u : TextModel) → IsPatrolLoop (with_turn t j) x samples u y
    → All (AlwaysFollows t) samples
follows_patrol t plant on fits [] j x y u loop = All-nil (AlwaysFollows t)
follows_patrol t plant on fits (s ∷ samples) j x y u loop =
    let m : TextModel = loop.3.0 in
    let visit = loop.3.2 in
    let turn = turn_after_visit t j (moved_by t.plant s) m visit.0 visit.2 in
    let rest = follows_patrol t plant on fits samples turn.0 (moved_by t.plant s) y u (subst (λ (n : TextModel). IsPatrolLoop n (moved_by t.plant s) samples u y) turn.1 loop.3.3) in
    All-cons (AlwaysFollows t) s samples (sample_follows (with_turn t j) plant (on j) fits s x loop.0 loop.1 loop.2) rest

enabled_follows : (p : Description) (t : TextModel) → IsEnabledText p t → HasNoOverflow p → (x y : List ℤ) (samples : List LoopSample) → IsLoop t x samples y → All (AlwaysFollows t) samples
enabled_follows p t e fits x y samples loop = follows t e.1 e.2 (subst HasNoOverflow (sym e.0) fits) samples x y loop

pub no_false_alarms : NoFalseAlarms
no_false_alarms bytes text t read = (
  λ given x y samples loop. elim given [
    | inl table ↦ enabled_follows table.0 t (table_enabled bytes text t read table) table.2.1.fits x y samples loop
    | inr stay ↦ enabled_follows stay.0 t (stay_text_enabled bytes text t read stay) stay.2.1.fits x y samples loop
  ],
  λ given j x y samples u loop.
      let e = patrol_enabled bytes text t read given in
      follows_patrol t e.1 e.2 (subst HasNoOverflow (sym e.0) given.2.0.1.fits) samples j x y u loop,
)
