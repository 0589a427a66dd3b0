-- A turn that is solved leaves the search under way, with less work left.
use Rattle.std.proofs.Common.{inl, inr, ◌≡◌, ◌≢◌, ℕ, suc, ◌+◌, ◌<◌, Bool, true, false, cond, List, [], length, set, sum_by, count_by, Option, Some, None, arith, refl, sym, ◌∙◌, ap, subst, length-set, get_or-set_same, get_or-set_other}
use Rattle.std.proofs.lemmas.Bool.{cases_eq}
use Rattle.std.proofs.lemmas.List.Sums.{sum_by-set}
use Rattle.std.proofs.lemmas.List.FromFn.{get_or-map-range_with_len}
use Rattle.game_core.specs.declared.game.Mark.{Mark}
use Rattle.game_core.specs.declared.game.Mark.TheVariants.{Goal, Plain}
use Rattle.game_core.specs.declared.game.Row.{Row}
use Rattle.game_core.specs.Game.{Game, IsGame}
use Rattle.game_core.specs.Solution.{row_of, HasRow}
use Rattle.turn_rows.specs.Targets.{next_turn}
use Rattle.temporal_games.specs.Visits.{Visits}
use Rattle.turn_rows.specs.Rows.{rows_for}
use Rattle.temporal_games.specs.Patrol.{IsLaterReachRow}
use Rattle.temporal_games.specs.inside.PatrolSearch.{PatrolProgress, marks_for, mark_at, IsMarked, is_due, AreTurnMarks, AreLaterReachRows, withdrawn_mark, withdrawn, is_goal, one_if, work_left, IsUnderWay, IsStableAt}
use Rattle.temporal_games.proofs.Withdrawing.{kept_goal, kept_row, still_turn_marks}
use Rattle.temporal_games.proofs.ForEver.{fewer, one_more}

-- which turns are due afterwards
due_false : (due : List Bool) (again : Bool) (turn before j : ℕ) → before < length due → is_due (cond again (set (set due turn false) before true) (set due turn false)) j ≡ false → (j ≡ before → again ≡ false) × (j ≢ turn → is_due due j ≡ false)
due_false due false turn before j lb e = (λ same. refl, λ ne. sym (get_or-set_other due turn j false false ne) ∙ e)
due_false due true turn before j lb e =
    elim (cases_eq j before) [
      | inl same ↦ absurd (let t : is_due (set (set due turn false) before true) before ≡ true = get_or-set_same (set due turn false) before true false (omega (arith, lb, length-set due turn false)) in let f : is_due (set (set due turn false) before true) before ≡ false = subst (λ (k : ℕ). is_due (set (set due turn false) before true) k ≡ false) same e in cc)
      | inr other ↦ (λ same. absurd (other same), λ ne. sym (get_or-set_other due turn j false false ne) ∙ (sym (get_or-set_other (set due turn false) before j true false other) ∙ e))
    ]

module _ (g : Game) (a : IsGame g) (In : ℕ → ℕ → Type 0) (turns turn before : ℕ) (p q : PatrolProgress) (h : IsUnderWay g In turns p) (lt : turn < turns) (lb : before < turns) (next : next_turn turns before ≡ turn) (only : (j : ℕ) → j < turns → next_turn turns j ≡ turn → j ≡ before) (s : IsStableAt g turn before p q) where
  abbrev old : List Mark
  old = marks_for p.marks before

  abbrev new : List Mark
  new = withdrawn old s.rows

  marks_before : marks_for q.marks before ≡ new
  marks_before = ap (λ (m : List (List Mark)). marks_for m before) s.marks_are ∙ get_or-set_same p.marks before new [] (omega (arith, lb, h.mark_lists))

  marks_other : (j : ℕ) → j ≢ before → marks_for q.marks j ≡ marks_for p.marks j
  marks_other j ne = ap (λ (m : List (List Mark)). marks_for m j) s.marks_are ∙ get_or-set_other p.marks before j new [] ne

  rows_turn : rows_for q.rows turn ≡ s.rows
  rows_turn = ap (λ (r : List (List (Option Row))). rows_for r turn) s.rows_are ∙ get_or-set_same p.rows turn s.rows [] (omega (arith, lt, h.row_lists))

  rows_other : (j : ℕ) → j ≢ turn → rows_for q.rows j ≡ rows_for p.rows j
  rows_other j ne = ap (λ (r : List (List (Option Row))). rows_for r j) s.rows_are ∙ get_or-set_other p.rows turn j s.rows [] ne

  many : length old ≡ g.cells
  many = (h.marked before lb).one_each

  new_at : (c : ℕ) → c < g.cells → mark_at new c ≡ withdrawn_mark (mark_at old c) (row_of s.rows c)
  new_at c lc = get_or-map-range_with_len (λ c. withdrawn_mark (mark_at old c) (row_of s.rows c)) 0 (length old) c c Plain (omega (arith, lc, many)) (omega arith)

  marked_before : (c : ℕ) → c < g.cells → IsMarked q.marks before c → withdrawn_mark (mark_at old c) (row_of s.rows c) ≡ Goal
  marked_before c lc e = sym (new_at c lc) ∙ (ap (λ (m : List Mark). mark_at m c) (sym marks_before) ∙ e)

  was_marked : (j c : ℕ) → c < g.cells → IsMarked q.marks j c → IsMarked p.marks j c
  was_marked j c lc e =
      elim (cases_eq j before) [
        | inl same ↦ subst (λ (k : ℕ). IsMarked p.marks k c) (sym same) (kept_goal (mark_at old c) (row_of s.rows c) (marked_before c lc (subst (λ (k : ℕ). IsMarked q.marks k c) same e)))
        | inr other ↦ ap (λ (m : List Mark). mark_at m c) (sym (marks_other j other)) ∙ e
      ]

  stays_marked : (c : ℕ) → c < g.cells → IsMarked p.marks before c → HasRow s.rows c → IsMarked q.marks before c
  stays_marked c lc m row =
      let e : withdrawn_mark (mark_at old c) (row_of s.rows c) ≡ withdrawn_mark Goal (Some row.0) = ap (λ (m : Mark). withdrawn_mark m (row_of s.rows c)) m ∙ ap (withdrawn_mark Goal) row.1 in
      ap (λ (m : List Mark). mark_at m c) marks_before ∙ (new_at c lc ∙ e)

  due_after : (j : ℕ) → is_due q.due j ≡ false → (j ≡ before → s.again ≡ false) × (j ≢ turn → is_due p.due j ≡ false)
  due_after j e = due_false p.due s.again turn before j (omega (arith, lb, h.tests)) (subst (λ (d : List Bool). is_due d j ≡ false) s.due_are e)

  same_marks : (j : ℕ) → is_due q.due j ≡ false → marks_for q.marks j ≡ marks_for p.marks j
  same_marks j e =
      elim (cases_eq j before) [
        | inr other ↦ marks_other j other
        | inl is ↦ subst (λ (k : ℕ). marks_for q.marks k ≡ marks_for p.marks k) (sym is) (marks_before ∙ s.same ((due_after j e).0 is))
      ]

  turn_marks : (j : ℕ) → j < turns → AreTurnMarks g (In j) (marks_for q.marks j)
  turn_marks j lj =
      elim (cases_eq j before) [
        | inr other ↦ subst (AreTurnMarks g (In j)) (sym (marks_other j other)) (h.marked j lj)
        | inl is ↦ subst (λ (k : ℕ). AreTurnMarks g (In k) (marks_for q.marks k)) (sym is) (subst (AreTurnMarks g (In before)) (sym marks_before) (still_turn_marks g (In before) old s.rows (h.marked before lb)))
      ]

  -- a cell with one visit more has a row in the turn that was solved
  has_row : (c : ℕ) → c < g.cells → Visits g In turns (suc h.visits) turn c → HasRow s.rows c
  has_row c lc v = by_row (row_of s.rows c) refl (s.lead.each c lc)
    where
      by_row : (o : Option Row) → row_of s.rows c ≡ o → IsLaterReachRow (λ s. mark_at (marks_for p.marks turn) s ≡ Goal) g c o → HasRow s.rows c
      by_row None e none = absurd (none (one_more g a In turns (λ s. mark_at (marks_for p.marks turn) s ≡ Goal) h.visits turn (λ s ls. h.holds turn s lt ls) c lc v))
      by_row (Some row) e is = (row, e)

  holds_more : (j c : ℕ) → j < turns → c < g.cells → In j c → Visits g In turns (suc h.visits) (next_turn turns j) c → IsMarked q.marks j c
  holds_more j c lj lc inside v =
      let was = h.holds j c lj lc inside (fewer g a In turns h.visits (next_turn turns j) c lc v) in
      elim (cases_eq j before) [
        | inr other ↦ ap (λ (m : List Mark). mark_at m c) (marks_other j other) ∙ was
        | inl is ↦
            let there : Visits g In turns (suc h.visits) turn c = subst (λ (k : ℕ). Visits g In turns (suc h.visits) k c) (ap (next_turn turns) is ∙ next) v in
            subst (λ (k : ℕ). IsMarked q.marks k c) (sym is) (stays_marked c lc (subst (λ (k : ℕ). IsMarked p.marks k c) is was) (has_row c lc there))
      ]

  solved_after : (j : ℕ) → j < turns → is_due q.due j ≡ false → AreLaterReachRows g (marks_for q.marks j) (rows_for q.rows j)
  solved_after j lj e =
      subst (λ (m : List Mark). AreLaterReachRows g m (rows_for q.rows j)) (sym (same_marks j e))
      (elim (cases_eq j turn) [
        | inl is ↦ subst (λ (k : ℕ). AreLaterReachRows g (marks_for p.marks k) (rows_for q.rows k)) (sym is) (subst (AreLaterReachRows g (marks_for p.marks turn)) (sym rows_turn) s.lead)
        | inr other ↦ subst (AreLaterReachRows g (marks_for p.marks j)) (sym (rows_other j other)) (h.solved j lj ((due_after j e).1 other))
      ])

  led_after : (j c : ℕ) → j < turns → c < g.cells → is_due q.due (next_turn turns j) ≡ false → IsMarked q.marks j c → HasRow (rows_for q.rows (next_turn turns j)) c
  led_after j c lj lc e m =
      elim (cases_eq (next_turn turns j) turn) [
        | inl is ↦
            let row = kept_row (mark_at old c) (row_of s.rows c) (marked_before c lc (subst (λ (k : ℕ). IsMarked q.marks k c) (only j lj is) m)) in
            subst (λ (r : List (Option Row)). HasRow r c) (sym rows_turn ∙ ap (rows_for q.rows) (sym is)) row
        | inr other ↦ subst (λ (r : List (Option Row)). HasRow r c) (sym (rows_other (next_turn turns j) other)) (h.led j c lj lc ((due_after (next_turn turns j) e).1 other) (was_marked j c lc m))
      ]

  pub goes_on : IsUnderWay g In turns q
  goes_on = record {
    mark_lists = ap (λ (m : List (List Mark)). length m) s.marks_are ∙ (length-set p.marks before new ∙ h.mark_lists);
    row_lists = ap (λ (r : List (List (Option Row))). length r) s.rows_are ∙ (length-set p.rows turn s.rows ∙ h.row_lists);
    tests = ap (λ (d : List Bool). length d) s.due_are ∙ (same_length s.again ∙ h.tests);
    marked = turn_marks;
    visits = suc h.visits;
    holds = holds_more;
    solved = solved_after;
    led = led_after;
  }
    where
      same_length : (b : Bool) → length (cond b (set (set p.due turn false) before true) (set p.due turn false)) ≡ length p.due
      same_length true = length-set (set p.due turn false) before true ∙ length-set p.due turn false
      same_length false = length-set p.due turn false

-- the work that is left after a turn was solved
pub less_work : (g : Game) (turn before : ℕ) (p q : PatrolProgress) → turn < length p.due → before < length p.due → before < length p.marks → is_due p.due turn ≡ true → IsStableAt g turn before p q → work_left q < work_left p
less_work g turn before p q lt lb lm due s = by_again s.again refl
  where
    new : List Mark
    new = withdrawn (marks_for p.marks before) s.rows

    goals : sum_by (λ marks. count_by is_goal marks) (set p.marks before new) + count_by is_goal (marks_for p.marks before) ≡ sum_by (λ marks. count_by is_goal marks) p.marks + count_by is_goal new
    goals = sum_by-set (λ marks. count_by is_goal marks) p.marks before new [] lm

    first : sum_by one_if (set p.due turn false) + one_if (is_due p.due turn) ≡ sum_by one_if p.due + one_if false
    first = sum_by-set one_if p.due turn false false lt

    one : one_if (is_due p.due turn) ≡ 1
    one = ap one_if due

    second : sum_by one_if (set (set p.due turn false) before true) + one_if (is_due (set p.due turn false) before) ≡ sum_by one_if (set p.due turn false) + one_if true
    second = sum_by-set one_if (set p.due turn false) before true false (omega (arith, lb, length-set p.due turn false))

    at_q : sum_by (λ marks. count_by is_goal marks) q.marks ≡ sum_by (λ marks. count_by is_goal marks) (set p.marks before new)
    at_q = ap (λ (m : List (List Mark)). sum_by (λ marks. count_by is_goal marks) m) s.marks_are

    by_again : (b : Bool) → s.again ≡ b → work_left q < work_left p
    by_again true e =
        let dues : sum_by one_if q.due ≡ sum_by one_if (set (set p.due turn false) before true) = ap (λ (d : List Bool). sum_by one_if d) (s.due_are ∙ ap (λ (b : Bool). cond b (set (set p.due turn false) before true) (set p.due turn false)) e) in
        omega (arith, goals, first, one, second, at_q, dues, s.fewer e)
    by_again false e =
        let dues : sum_by one_if q.due ≡ sum_by one_if (set p.due turn false) = ap (λ (d : List Bool). sum_by one_if d) (s.due_are ∙ ap (λ (b : Bool). cond b (set (set p.due turn false) before true) (set p.due turn false)) e) in
        let same : count_by is_goal new ≡ count_by is_goal (marks_for p.marks before) = ap (λ (m : List Mark). count_by is_goal m) (s.same e) in
        omega (arith, goals, first, one, at_q, dues, same)
