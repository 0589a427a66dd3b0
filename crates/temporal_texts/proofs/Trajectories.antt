-- What texts promise of their plants holds along every trajectory by their rows: by induction on the samples.
use Rattle.std.proofs.Common.{inl, inr, ◌≡◌, ℕ, zero, suc, ◌-◌, ◌≤◌, List, [], ◌∷◌, length, map, take, Option, None, refl, sym, subst, arith}
use Rattle.std.specs.Prelude.{ℤ, IfSome}
use Rattle.std.specs.List.{AllByRecursion, Any}
use Rattle.std.proofs.lemmas.List.Elements.{All-from_recursion}
use Rattle.game_core.specs.declared.game.Row.{Row}
use Rattle.game_core.proofs.Rows.{below_from_row}
use Rattle.grid_quantiser.specs.Cells.{cell_of}
use Rattle.plant_record.specs.Description.{Description, axes_of}
use Rattle.plant_record.specs.Steps.{step_of, IsNoise}
use Rattle.row_reading.specs.RowsTexts.{IsRowWithin}
use Rattle.controller_table.specs.declared.text_kind.TextKind.TheVariants.{Stay, Patrol}
use Rattle.controller_table.specs.TextKinds.{patrol_rules}
use Rattle.controller_table.proofs.RowsAtStates.{in_cell}
use Rattle.controller_table.proofs.TextRows.{turn_known, one_text_row}
use Rattle.temporal_texts.specs.Settles.{IsUnderWay, Holds}
use Rattle.temporal_texts.specs.PatrolText.{HasPatrolRow}
use Rattle.turn_rows.specs.Rows.{rows_for}
use Rattle.temporal_texts.specs.Patrols.{LandsWell, Goes}
use Rattle.temporal_texts.specs.TextTrajectories.{Sample, state_after, IsStayTrajectory, IsPatrolTrajectory, EndsTurn}
use Rattle.temporal_texts.specs.Laws.{StayTrajectoriesSettle, PatrolTrajectoriesGoOn}

-- the noises of samples
abbrev noises_of : List Sample → List (List ℤ)
noises_of samples = map (λ (s : Sample). s.noise) samples

-- ---- stay texts

module _ (p : Description) (bytes : List ℕ) where
  stay_noises : (samples : List Sample) (x y : List ℤ) → IsStayTrajectory p bytes x samples y → AllByRecursion (IsNoise p.noises) (noises_of samples)
  stay_noises [] x y t = tt
  stay_noises (s ∷ samples) x y t = (t.2, stay_noises samples (state_after p s) y t.3)

  -- what holds with all samples ahead holds at the end with none
  held_at_end : (samples : List Sample) (x y : List ℤ) (k : ℕ) → IsStayTrajectory p bytes x samples y → Holds p bytes x k (noises_of samples) → IsUnderWay p bytes y (k - length samples)
  held_at_end [] x y k t h = subst (λ (z : List ℤ). IsUnderWay p bytes z (k - 0)) (sym t) (subst (λ (n : ℕ). IsUnderWay p bytes x n) (omega arith) h)
  held_at_end (s ∷ samples) x y k t h =
      let row : h.1.0 ≡ s.row = one_text_row Stay bytes 0 x h.1.0 s.row h.1.1 t.1 in
      let here : Holds p bytes (state_after p s) (k - 1) (noises_of samples) =
      subst (λ (z : List ℤ). Holds p bytes (step_of p z s.row.input s.noise) (k - 1) (noises_of samples)) (sym t.0)
      (subst (λ (r : Row). Holds p bytes (step_of p x r.input s.noise) (k - 1) (noises_of samples)) row h.1.2) in
      subst (λ (n : ℕ). IsUnderWay p bytes y n) (omega arith) (held_at_end samples (state_after p s) y (k - 1) t.3 here)

pub stay_trajectories_settle : StayTrajectoriesSettle
stay_trajectories_settle p bytes settles x y row samples has t =
    let end = held_at_end p bytes samples x y row.rank t (settles x row (noises_of samples) has (All-from_recursion (IsNoise p.noises) (noises_of samples) (stay_noises p bytes samples x y t))) in
    (end.0, end.1, λ le. end.2 (omega (arith, le)))

-- ---- patrol texts

module _ (p : Description) (bytes : List ℕ) where
  patrol_noises : (samples : List Sample) (j i : ℕ) (x y : List ℤ) → IsPatrolTrajectory p bytes j x samples i y → AllByRecursion (IsNoise p.noises) (noises_of samples)
  patrol_noises [] j i x y t = tt
  patrol_noises (s ∷ samples) j i x y t = (t.2, patrol_noises samples t.3.0 i (state_after p s) y t.3.2)

  -- where the first sample lands
  landed : (s : Sample) (samples : List Sample) (j k : ℕ) (x : List ℤ) → s.state ≡ x → HasPatrolRow bytes j x s.row → Goes p bytes j x k (s.noise ∷ noises_of samples)
      → LandsWell p bytes j (state_after p s) k (λ i n. Goes p bytes i (state_after p s) n (noises_of samples))
  landed s samples j k x at has h =
      let row : h.1.0 ≡ s.row = one_text_row Patrol bytes j x h.1.0 s.row h.1.1 has in
      subst (λ (z : List ℤ). LandsWell p bytes j (step_of p z s.row.input s.noise) k (λ i n. Goes p bytes i (step_of p z s.row.input s.noise) n (noises_of samples))) (sym at)
      (subst (λ (r : Row). LandsWell p bytes j (step_of p x r.input s.noise) k (λ i n. Goes p bytes i (step_of p x r.input s.noise) n (noises_of samples))) row h.1.3)

  -- a state in its turn
  abbrev IsOnWay : ℕ → List ℤ → Type 0
  IsOnWay i y = (k : ℕ) × Goes p bytes i y k []

  goes_to_end : (samples : List Sample) (j i : ℕ) (x y : List ℤ) (k : ℕ) → IsPatrolTrajectory p bytes j x samples i y → Goes p bytes j x k (noises_of samples) → IsOnWay i y
  goes_to_end [] j i x y k t h = (k, subst (λ (z : List ℤ). Goes p bytes i z k []) (sym t.1) (subst (λ (m : ℕ). Goes p bytes m x k []) (sym t.0) h))
  goes_to_end (s ∷ samples) j i x y k t h = elim (landed s samples j k x t.0 t.1 h) [
    | inl there ↦ elim t.3.1 [
      | inl arrived ↦ goes_to_end samples t.3.0 i (state_after p s) y there.0.rank t.3.2 (subst (λ (m : ℕ). Goes p bytes m (state_after p s) there.0.rank (noises_of samples)) (sym arrived.2) there.3)
      | inr on ↦ absurd (on.0 there.0 there.1)
    ]
    | inr way ↦ elim t.3.1 [
      | inl arrived ↦ absurd (way.0 arrived.0 arrived.1)
      | inr on ↦ goes_to_end samples t.3.0 i (state_after p s) y (k - 1) t.3.2 (subst (λ (m : ℕ). Goes p bytes m (state_after p s) (k - 1) (noises_of samples)) (sym on.1) way.2)
    ]
  ]

  -- a row for a turn has a rank of at least 1
  some_rank : (j : ℕ) (x : List ℤ) (row : Row) → HasPatrolRow bytes j x row → 1 ≤ row.rank
  some_rank j x row h =
      let rows : List (Option Row) = rows_for h.turns j in
      let c : ℕ = cell_of (axes_of h.plant) x in
      let is = (in_cell h.plant rows x row h.has).1 in
      let each = (h.text.within.each j [] (turn_known h.turns j c row is)).each c None (below_from_row rows c row is) in
      (subst (λ (o : Option Row). IfSome o (IsRowWithin (patrol_rules h.plant))) is each).least

  some_left : (j : ℕ) (x : List ℤ) (k : ℕ) (ws : List (List ℤ)) → Goes p bytes j x k ws → 1 ≤ k
  some_left j x k [] h = let some = some_rank j x h.1.0 h.1.1 in let le = h.1.2 in omega (arith, some, le)
  some_left j x k (w ∷ ws) h = let some = some_rank j x h.1.0 h.1.1 in let le = h.1.2 in omega (arith, some, le)

  any_later : (j : ℕ) (s : Sample) (samples : List Sample) → Any (EndsTurn p bytes j) samples → Any (EndsTurn p bytes j) (s ∷ samples)
  any_later j s samples a = (suc a.0, a.1, omega (arith, a.2), a.3, a.4)

  -- within so many samples the turn ends
  turn_ends : (samples : List Sample) (j i : ℕ) (x y : List ℤ) (k n : ℕ) → k ≤ n → n ≤ length samples → IsPatrolTrajectory p bytes j x samples i y → Goes p bytes j x k (noises_of samples) → Any (EndsTurn p bytes j) (take n samples)
  turn_ends [] j i x y k n le few t h = absurd (let some = some_left j x k [] h in omega (arith, some, le, few))
  turn_ends (s ∷ samples) j i x y k zero le few t h = absurd (let some = some_left j x k (s.noise ∷ noises_of samples) h in omega (arith, some, le))
  turn_ends (s ∷ samples) j i x y k (suc n) le few t h = elim (landed s samples j k x t.0 t.1 h) [
    | inl there ↦ (0, s, omega arith, refl, ((there.0, there.1), there.2))
    | inr way ↦ elim t.3.1 [
      | inl arrived ↦ absurd (way.0 arrived.0 arrived.1)
      | inr on ↦ any_later j s (take n samples)
          (turn_ends samples j i (state_after p s) y (k - 1) n (omega (arith, le)) (omega (arith, few))
          (subst (λ (m : ℕ). IsPatrolTrajectory p bytes m (state_after p s) samples i y) on.1 t.3.2) way.2)
    ]
  ]

pub patrol_trajectories_go_on : PatrolTrajectoriesGoOn
patrol_trajectories_go_on p bytes patrols j i x y row samples has t =
    let goes = patrols j x row (noises_of samples) has (All-from_recursion (IsNoise p.noises) (noises_of samples) (patrol_noises p bytes samples j i x y t)) in
    let end = goes_to_end p bytes samples j i x y row.rank t goes in
    (end.1.0, (end.1.1.0, end.1.1.1), λ le. turn_ends p bytes samples j i x y row.rank row.rank (omega arith) le t goes)
