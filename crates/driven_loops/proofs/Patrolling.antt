-- A followed loop by the text of a patrol: with each sample the rank for the turn falls, or the turn ends in its target.
use Rattle.std.proofs.Common.{inl, inr, ◌≡◌, ◌⊎◌, ℕ, zero, suc, ◌<◌, ◌≤◌, List, [], ◌∷◌, length, take, Some, refl, sym, ap, subst, ◌∙◌, arith}
use Rattle.std.specs.Prelude.{ℤ}
use Rattle.std.specs.List.{Any}
use Rattle.game_core.specs.declared.game.Row.{Row}
use Rattle.game_core.specs.Solution.{row_of, HasRowBelow}
use Rattle.game_core.specs.Solution as solutions
use Rattle.plant_record.specs.Description.{Description}
use Rattle.controller_table.specs.Choice.{HasRowAt}
use Rattle.turn_rows.specs.Targets.{IsInTarget, next_turn}
use Rattle.turn_rows.specs.Rows.{rows_for}
use Rattle.temporal_promises.proofs.Patrolling.{cell_below, reached_by, some_rank, leads_on}
use Rattle.controller_table.specs.declared.text_kind.TextKind.TheVariants.{Patrol}
use Rattle.text_control.specs.declared.visits.Visit.{Visit}
use Rattle.text_control.specs.declared.visits.Visit.TheVariants.{Next, Same, WrongSize}
use Rattle.text_control.specs.Texts.{TextModel}
use Rattle.text_control.specs.Control.{IsRank}
use Rattle.text_control.specs.Loops.{Answers, AlwaysAnswers}
use Rattle.text_control.specs.Visits.{with_turn, IsVisit}
use Rattle.text_control.specs.Followed.{FollowedSample, IsInItsBox}
use Rattle.controller_table.proofs.RowsAtStates.{in_cell, row_stands}
use Rattle.controller_table.proofs.TextRows.{turn_known}
use Rattle.driven_loops.specs.Followed.{IsFollowedPatrolLoop, FollowedEndsTurn}
use Rattle.driven_loops.specs.LoopPromises.{LoopsPatrol}
use Rattle.driven_loops.specs.FollowedLaws.{FollowedPatrolTextsGoOn}
use Rattle.driven_loops.proofs.ReadBack.{HoldsPatrol, says, holds_patrol}
use Rattle.driven_loops.proofs.LeadingOn.{LeadOn, clear_at, next_cell}
use Rattle.driven_loops.proofs.RowAnswers.{row_answers, has_rank}

module _ (p : Description) (t : TextModel) (h : HoldsPatrol p t) where
  abbrev m : TextModel
  m = says Patrol p h.turns

  abbrev turns : ℕ
  turns = length p.targets

  abbrev HasRow : ℕ → List ℤ → Row → Type 0
  HasRow j x row = HasRowAt p (rows_for h.turns j) x row

  -- a row of a lower rank for the turn, or an arrival
  abbrev GoesOnAt : ℕ → ℕ → ℕ → Type 0
  GoesOnAt j rank d = HasRowBelow (rows_for h.turns j) rank d ⊎ (IsInTarget p j d × solutions.HasRow (rows_for h.turns (next_turn turns j)) d)

  turn_is : (j c : ℕ) (row : Row) → row_of (rows_for h.turns j) c ≡ Some row → j < turns
  turn_is j c row is = omega (arith, turn_known h.turns j c row is, h.solution.one_list_each)

  -- a row for a turn has a rank of at least 1
  above_zero : (j : ℕ) (x : List ℤ) (row : Row) → HasRow j x row → 1 ≤ row.rank
  above_zero j x row has = let is = (in_cell p (rows_for h.turns j) x row has).1 in some_rank h.solution j (turn_is j _ row is) _ row is

  pub patrol_rows : (j : ℕ) → LeadOn (with_turn m j) (GoesOnAt j)
  patrol_rows j = record {
    plant = h.plant;
    game = h.game;
    abstraction = h.abstraction;
    below = λ c row is. cell_below h.solution j (turn_is j c row is) c row is;
    clear = λ c row is. (reached_by h.solution j (turn_is j c row is) c row is).reached.1.0;
    enabled = λ c row is applies. (reached_by h.solution j (turn_is j c row is) c row is).reached.1.1;
    leads = λ c row is applies. leads_on h.solution j (turn_is j c row is) c row is h.abstraction.game;
  }

  -- a sample ends the turn, which is followed by the next one, or leads to a row of a lower rank for the turn
  lands : (j : ℕ) (s : FollowedSample) (x : List ℤ) (row : Row) → HasRow j x row → s.state ≡ x → Answers (with_turn m j) x s.values → IsInItsBox p s → length s.next ≡ length p.states
      → (n : TextModel) (visit : Visit) → IsVisit (with_turn m j) s.next n visit
      → ((n ≡ with_turn m (next_turn turns j)) × FollowedEndsTurn (with_turn m j) s) ⊎ ((n ≡ with_turn m j) × ((next : Row) × HasRow j s.next next × (next.rank < row.rank)))
  lands j s x row has at answer b sized n Next is = inl (is.2, (is.1, is.1.target.2 s.next ((in_cell p (rows_for h.turns (next_turn turns j)) s.next is.1.row is.1.next).0, refl)))
  lands j s x row has at answer b sized n Same is =
      elim (next_cell (patrol_rows j) s x row has at answer b) [
        | inl lower ↦ inr (is.2, (lower.row, row_stands p (rows_for h.turns j) s.next lower.row b.inside lower.is, lower.below))
        | inr there ↦ absurd (is.1 (record { patrol = refl; target = there.0; row = there.1.0; next = row_stands p (rows_for h.turns (next_turn turns j)) s.next there.1.0 b.inside there.1.1 }))
      ]
  lands j s x row has at answer b sized n WrongSize is = absurd (is.0 sized)

  -- ---- loops

  -- where a loop leads there is a row for the turn that is due
  goes_on : (samples : List FollowedSample) (j : ℕ) (x y : List ℤ) (u : TextModel) (row : Row) → HasRow j x row → IsFollowedPatrolLoop (with_turn m j) x samples u y → (u ≡ with_turn m u.turn) × ((last : Row) × HasRow u.turn y last)
  goes_on [] j x y u row has loop =
      let turn : j ≡ u.turn = sym (ap (λ (m : TextModel). m.turn) loop.0) in
      (loop.0 ∙ ap (with_turn m) turn, (row, subst (λ (i : ℕ). HasRow i y row) turn (subst (λ (z : List ℤ). HasRow j z row) (sym loop.1) has)))
  goes_on (s ∷ samples) j x y u row has loop =
      let visit = loop.4.2 in
      elim (lands j s x row has loop.0 loop.1 loop.2 loop.3 loop.4.0 visit.0 visit.2) [
        | inl ends ↦ goes_on samples (next_turn turns j) s.next y u ends.1.0.row ends.1.0.next (subst (λ (n : TextModel). IsFollowedPatrolLoop n s.next samples u y) ends.0 loop.4.3)
        | inr on ↦ goes_on samples j s.next y u on.1.0 on.1.1 (subst (λ (n : TextModel). IsFollowedPatrolLoop n s.next samples u y) on.0 loop.4.3)
      ]

  later : (j : ℕ) (s : FollowedSample) (samples : List FollowedSample) → Any (FollowedEndsTurn (with_turn m j)) samples → Any (FollowedEndsTurn (with_turn m j)) (s ∷ samples)
  later j s samples a = (suc a.0, a.1, omega (arith, a.2), a.3, a.4)

  -- within as many samples as the rank the turn ends
  turn_ends : (samples : List FollowedSample) (j : ℕ) (x y : List ℤ) (u : TextModel) (row : Row) (n : ℕ) → HasRow j x row → row.rank ≤ n → n ≤ length samples → IsFollowedPatrolLoop (with_turn m j) x samples u y
      → Any (FollowedEndsTurn (with_turn m j)) (take n samples)
  turn_ends [] j x y u row n has le few loop = absurd (omega (arith, le, few, above_zero j x row has))
  turn_ends (s ∷ samples) j x y u row zero has le few loop = absurd (omega (arith, le, above_zero j x row has))
  turn_ends (s ∷ samples) j x y u row (suc n) has le few loop =
      let visit = loop.4.2 in
      elim (lands j s x row has loop.0 loop.1 loop.2 loop.3 loop.4.0 visit.0 visit.2) [
        | inl ends ↦ (0, s, omega arith, refl, ends.1)
        | inr on ↦
            let less = on.1.2 in
            later j s (take n samples)
            (turn_ends samples j s.next y u on.1.0 n on.1.1 (omega (arith, less, le)) (omega (arith, few)) (subst (λ (v : TextModel). IsFollowedPatrolLoop v s.next samples u y) on.0 loop.4.3))
      ]

  patrols : LoopsPatrol IsFollowedPatrolLoop FollowedEndsTurn p m
  patrols = (
    refl,
    λ j x y k samples u rank loop.
        let start = rank.0 in
        let is = start.is in
        let end = goes_on samples j x y u start.row start.has loop in
        let last : Row = end.1.0 in
        let due = with_turn m u.turn in (
          clear_at (patrol_rows u.turn) y last end.1.1,
          subst (λ (n : TextModel). AlwaysAnswers n y) (sym end.0) (row_answers due y last end.1.1 refl),
          λ le. turn_ends samples j x y u start.row k start.has (omega (arith, is)) le loop,
          end.0,
          (last.rank, subst (λ (n : TextModel). IsRank n y last.rank) (sym end.0) (has_rank due y last end.1.1)),
        ),
  )

pub followed_patrol_texts_go_on : FollowedPatrolTextsGoOn
followed_patrol_texts_go_on p bytes text t spells given read =
    let h = holds_patrol p bytes text t spells given read in
    subst (LoopsPatrol IsFollowedPatrolLoop FollowedEndsTurn p) (sym h.is) (patrols p t h)
