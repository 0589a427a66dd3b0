-- Loops of the answers of stay texts that settle their plants, and of patrol texts that patrol.
use Rattle.std.proofs.Common.{◌≡◌, ℕ, zero, suc, ◌<◌, ◌≤◌, List, [], ◌∷◌, Some, length, take, refl, sym, ap, subst, ◌∙◌, arith}
use Rattle.std.specs.Prelude.{ℤ, slice_index_or}
use Rattle.std.specs.List.{Any}
use Rattle.std.proofs.lemmas.List.{length-map}
use Rattle.std.proofs.lemmas.Option.{same_Some}
use Rattle.game_core.specs.declared.game.Row.{Row}
use Rattle.grid_quantiser.specs.CellBoxes.{IsInBox}
use Rattle.plant_record.specs.Description.{Description, axes_of, vector_of}
use Rattle.controller_table.specs.Choice.{HasRowAt}
use Rattle.controller_table.specs.TextRows.{HasTextRow}
use Rattle.turn_rows.specs.Rows.{rows_for}
use Rattle.temporal_texts.specs.StayText.{HasStayRow}
use Rattle.temporal_texts.specs.PatrolText.{HasPatrolRow}
use Rattle.temporal_texts.specs.TextTrajectories.{Sample, state_after, IsStayTrajectory, IsTurnFrom, IsPatrolTrajectory}
use Rattle.temporal_texts.specs.TextTrajectories as texts
use Rattle.turn_rows.specs.Targets.{target_at}
use Rattle.temporal_texts.proofs.Trajectories.{stay_trajectories_settle, patrol_trajectories_go_on}
use Rattle.controller_table.specs.declared.text_kind.TextKind.{TextKind}
use Rattle.controller_table.specs.declared.text_kind.TextKind.TheVariants.{Stay, Patrol}
use Rattle.text_control.specs.declared.visits.Visit.{Visit}
use Rattle.text_control.specs.declared.visits.Visit.TheVariants.{WrongSize}
use Rattle.text_control.specs.Texts.{TextModel, due_rows, Tells}
use Rattle.text_control.specs.Control.{applied_as, AreTextValues}
use Rattle.text_control.specs.Visits.{HasArrivedInTurn, with_turn, IsVisit, IsVisitByText}
use Rattle.text_control.specs.Loops.{LoopSample, moved_by, Answers, AlwaysAnswers, IsLoop, IsPatrolLoop}
use Rattle.text_control.specs.Laws.{EndsTurn, StayLoopsSettle, PatrolLoopsGoOn}
use Rattle.text_control.proofs.OneText.{text_row, first_due}
use Rattle.text_control.proofs.TurnChanges.{arrived}
use Rattle.text_control.proofs.Answering.{chosen, always_answers, moves}

-- samples of rows lead to the states that those of values lead to
abbrev AreAlike : Description → List Sample → List LoopSample → Type 0
AreAlike p [] [] = Unit {0}
AreAlike p [] (s ∷ samples) = ⊥
AreAlike p (r ∷ rows) [] = ⊥
AreAlike p (r ∷ rows) (s ∷ samples) = (state_after p r ≡ moved_by p s) × AreAlike p rows samples

same_length : (p : Description) (rows : List Sample) (samples : List LoopSample) → AreAlike p rows samples → length rows ≡ length samples
same_length p [] [] alike = refl
same_length p [] (s ∷ samples) alike = absurd alike
same_length p (r ∷ rows) [] alike = absurd alike
same_length p (r ∷ rows) (s ∷ samples) alike = ap suc (same_length p rows samples alike.1)

-- the sample of a row whose input has the values
abbrev by_row : LoopSample → Row → Sample
by_row s row = record { state = s.state; row = row; noise = s.noise }

-- ---- stay texts

module _ (bytes : List ℕ) (t : TextModel) (tells : Tells bytes t) (kind : t.kind ≡ Stay) (first : t.turn ≡ 0) where
  abbrev p : Description
  p = t.plant

  stay_row : (x : List ℤ) (row : Row) → HasRowAt p (due_rows t) x row → HasStayRow bytes x row
  stay_row x row has = subst (λ (due : TextKind × ℕ). HasTextRow due.0 bytes due.1 x row) (λ i. (kind i, first i)) (text_row bytes t tells x t.turn row has)

  answered_row : (x values : List ℤ) → Answers t x values → (row : Row) × HasStayRow bytes x row × (values ≡ vector_of p.inputs row.input)
  answered_row x values answers =
      let c = chosen t x values answers in
      let applies = same_Some c.row.input c.input (subst (λ (k : TextKind). applied_as k p.goal c.row ≡ Some c.input) kind c.applies) in
      (c.row, stay_row x c.row c.has, c.are ∙ ap (vector_of p.inputs) (sym applies))

  as_trajectory : (samples : List LoopSample) (x y : List ℤ) → IsLoop t x samples y → (rows : List Sample) × IsStayTrajectory p bytes x rows y × AreAlike p rows samples
  as_trajectory [] x y loop = ([], loop, tt)
  as_trajectory (s ∷ samples) x y loop =
      let row = answered_row x s.values loop.1 in
      let same : moved_by p s ≡ state_after p (by_row s row.0) = moves p s row.0.input row.2 in
      let rest = as_trajectory samples (moved_by p s) y loop.3 in
      (by_row s row.0 ∷ rest.0, (loop.0, row.1, loop.2, subst (λ (z : List ℤ). IsStayTrajectory p bytes z rest.0 y) same rest.1), (sym same, rest.2))

  pub stay_answers : (y : List ℤ) (row : Row) → HasStayRow bytes y row → AlwaysAnswers t y
  stay_answers y row has =
      let values = vector_of has.plant.inputs row.input in
      always_answers t y bytes tells values
      (subst (λ (due : TextKind × ℕ). AreTextValues due.0 due.1 bytes y values) (λ i. (sym kind i, sym first i)) (row, has, row.input, refl, refl))

pub stay_loops_settle : StayLoopsSettle
stay_loops_settle bytes t tells kind settles x y k samples rank loop =
    let at = rank.0 in
    let first = first_due bytes t tells x Stay kind refl at.row at.has in
    let way = as_trajectory bytes t tells kind first samples x y loop in
    let end = stay_trajectories_settle t.plant bytes settles x y at.row way.0 (stay_row bytes t tells kind first x at.row at.has) way.1 in
    (end.0, stay_answers bytes t tells kind first y end.1.0 end.1.1, λ le. end.2 (let same = same_length t.plant way.0 samples way.2 in let r = at.is in omega (arith, le, same, r)))

-- ---- patrol texts

module _ (bytes : List ℕ) (t : TextModel) (tells : Tells bytes t) (kind : t.kind ≡ Patrol) where
  patrol_row : (j : ℕ) (x : List ℤ) (row : Row) → HasRowAt t.plant (rows_for t.turns j) x row → HasPatrolRow bytes j x row
  patrol_row j x row has = subst (λ (k : TextKind). HasTextRow k bytes j x row) kind (text_row bytes t tells x j row has)

  turn_row : (j : ℕ) (x values : List ℤ) → Answers (with_turn t j) x values → (row : Row) × HasPatrolRow bytes j x row × (values ≡ vector_of t.plant.inputs row.input)
  turn_row j x values answers =
      let c = chosen (with_turn t j) x values answers in
      let applies = same_Some c.row.input c.input (subst (λ (k : TextKind). applied_as k t.plant.goal c.row ≡ Some c.input) kind c.applies) in
      (c.row, patrol_row j x c.row c.has, c.are ∙ ap (vector_of t.plant.inputs) (sym applies))

  one_number_each : (s : LoopSample) → length (moved_by t.plant s) ≡ length t.plant.states
  one_number_each s = length-map t.plant.equations _ ∙ tells.limits.plant.one_each

  -- what is held after a visit is the same text, and its turn is the text's
  visited : (j : ℕ) (y : List ℤ) (m : TextModel) (visit : Visit) → length y ≡ length t.plant.states → IsVisit (with_turn t j) y m visit → IsVisitByText (with_turn t j) y m visit
      → (m ≡ with_turn t m.turn) × IsTurnFrom t.plant bytes j y m.turn
  visited j y m WrongSize sized is by = absurd (is.0 sized)
  visited j y m visit sized is by = (is.2 ∙ ap (with_turn t) (sym (ap (λ (n : TextModel). n.turn) is.2)), by bytes tells kind)

  as_patrol : (samples : List LoopSample) (j : ℕ) (x y : List ℤ) (u : TextModel) → IsPatrolLoop (with_turn t j) x samples u y
      → (rows : List Sample) × IsPatrolTrajectory t.plant bytes j x rows u.turn y × AreAlike t.plant rows samples × (u ≡ with_turn t u.turn)
  as_patrol [] j x y u loop = ([], (ap (λ (n : TextModel). n.turn) loop.0, loop.1), tt, loop.0 ∙ ap (with_turn t) (sym (ap (λ (n : TextModel). n.turn) loop.0)))
  as_patrol (s ∷ samples) j x y u loop =
      let row = turn_row j x s.values loop.1 in
      let same : moved_by t.plant s ≡ state_after t.plant (by_row s row.0) = moves t.plant s row.0.input row.2 in
      let m = loop.3.0 in
      let visit = loop.3.2 in
      let v = visited j (moved_by t.plant s) m visit.0 (one_number_each s) visit.2 visit.3 in
      let rest = as_patrol samples m.turn (moved_by t.plant s) y u (subst (λ (n : TextModel). IsPatrolLoop n (moved_by t.plant s) samples u y) v.0 loop.3.3) in
      let on : IsTurnFrom t.plant bytes j (state_after t.plant (by_row s row.0)) m.turn = subst (λ (z : List ℤ). IsTurnFrom t.plant bytes j z m.turn) same v.1 in
      let after : IsPatrolTrajectory t.plant bytes m.turn (state_after t.plant (by_row s row.0)) rest.0 u.turn y = subst (λ (z : List ℤ). IsPatrolTrajectory t.plant bytes m.turn z rest.0 u.turn y) same rest.1 in
      (by_row s row.0 ∷ rest.0, (loop.0, row.1, loop.2, (m.turn, on, after)), (sym same, rest.2), rest.3)

  -- a turn that ends with a row's sample ends with that of its values
  ends_alike : (rows : List Sample) (samples : List LoopSample) (k : ℕ) → AreAlike t.plant rows samples → Any (texts.EndsTurn t.plant bytes t.turn) (take k rows) → Any (EndsTurn t) (take k samples)
  ends_alike rows samples zero alike a = absurd (omega (arith, a.2))
  ends_alike [] samples (suc k) alike a = absurd (omega (arith, a.2))
  ends_alike (r ∷ rows) [] (suc k) alike a = absurd alike
  ends_alike (r ∷ rows) (s ∷ samples) (suc k) alike a = at (λ b. ends_alike rows samples k alike.1 b) a.0 a.1 a.2 a.3 a.4
    where
      at : (Any (texts.EndsTurn t.plant bytes t.turn) (take k rows) → Any (EndsTurn t) (take k samples)) → (i : ℕ) (e : Sample) → i < length (take (suc k) (r ∷ rows)) → slice_index_or (take (suc k) (r ∷ rows)) i e ≡ e
          → texts.EndsTurn t.plant bytes t.turn e → Any (EndsTurn t) (take (suc k) (s ∷ samples))
      at on zero e lt is ends =
          let here : texts.EndsTurn t.plant bytes t.turn r = subst (texts.EndsTurn t.plant bytes t.turn) (sym is) ends in
          (0, s, omega arith, refl, subst (λ (z : List ℤ). HasArrivedInTurn t z × IsInBox (axes_of t.plant) (target_at t.plant t.turn).low (target_at t.plant t.turn).high z) alike.0 (arrived t (state_after t.plant r) bytes tells kind here.0.0 here.0.1, here.1))
      at on (suc i) e lt is ends =
          let later = on (i, e, omega (arith, lt), is, ends) in
          (suc later.0, later.1, omega (arith, later.2), later.3, later.4)

  patrol_answers : (j : ℕ) (y : List ℤ) (row : Row) → HasPatrolRow bytes j y row → AlwaysAnswers (with_turn t j) y
  patrol_answers j y row has =
      always_answers (with_turn t j) y bytes tells (vector_of has.plant.inputs row.input)
      (subst (λ (k : TextKind). AreTextValues k j bytes y (vector_of has.plant.inputs row.input)) (sym kind) (row, has, row.input, refl, refl))

pub patrol_loops_go_on : PatrolLoopsGoOn
patrol_loops_go_on bytes t u tells kind patrols x y k samples rank loop =
    let at = rank.0 in
    let way = as_patrol bytes t tells kind samples t.turn x y u loop in
    let end = patrol_trajectories_go_on t.plant bytes patrols t.turn u.turn x y at.row way.0 (patrol_row bytes t tells kind t.turn x at.row at.has) way.1 in
    let ends : k ≤ length samples → Any (EndsTurn t) (take k samples) = λ le. subst (λ (n : ℕ). Any (EndsTurn t) (take n samples)) (sym at.is)
    (ends_alike bytes t tells kind way.0 samples at.row.rank way.2 (end.2 (let same = same_length t.plant way.0 samples way.2 in let r = at.is in omega (arith, le, same, r)))) in
    (end.0, subst (λ (m : TextModel). AlwaysAnswers m y) (sym way.3) (patrol_answers bytes t tells kind u.turn y end.1.0 end.1.1), ends)
