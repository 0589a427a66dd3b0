-- How goals without a row are withdrawn, cell by cell.
use Rattle.std.proofs.Common.{inl, inr, ◌≡◌, ℕ, ◌+◌, ◌<◌, ◌≤◌, Bool, true, false, List, length, set, count_by, Option, Some, None, arith, refl, sym, ◌∙◌, ap, subst, length-set, get_or-set_same, get_or-set_other}
use Rattle.std.proofs.lemmas.Bool.{cases_eq}
use Rattle.std.proofs.lemmas.List.Sums.{sum_by-set}
use Rattle.std.proofs.lemmas.List.FromFn.{fill_by_all, length-map-range_with_len, get_or-map-range_with_len}
use Rattle.game_core.specs.declared.game.Mark.{Mark}
use Rattle.game_core.specs.declared.game.Mark.TheVariants.{Goal, Obstacle, Plain}
use Rattle.game_core.specs.declared.game.Row.{Row}
use Rattle.game_core.specs.Game.{Game}
use Rattle.game_core.specs.Solution.{row_of}
use Rattle.plant_record.specs.Description.{Description}
use Rattle.turn_rows.specs.Targets.{IsInTarget}
use Rattle.temporal_games.specs.inside.PatrolSearch.{mark_at, AreTurnMarks, AreTargetMarks, AreFirstMarks, withdrawn_mark, withdrawn, is_gone, is_goal, one_if}

-- the marks below c are withdrawn, the others are as they were, and as many goals are gone
pub record IsWithdrawing (first : List Mark) (rows : List (Option Row)) (c : ℕ) (found : Bool) (marks : List Mark) : Type 0 where
  pub one_each : length marks ≡ length first
  pub so_far : (k : ℕ) → k < c → mark_at marks k ≡ withdrawn_mark (mark_at first k) (row_of rows k)
  pub rest : (k : ℕ) → c ≤ k → mark_at marks k ≡ mark_at first k
  pub same : found ≡ false → marks ≡ first
  pub fewer : count_by is_goal marks + one_if found ≤ count_by is_goal first

gone_goal : (m : Mark) (o : Option Row) → is_gone m o ≡ true → (m ≡ Goal) × (withdrawn_mark m o ≡ Plain)
gone_goal Goal None e = (refl, refl)
gone_goal Goal (Some row) e = absurd (let f : false ≡ true = e in cc)
gone_goal Obstacle o e = absurd (let f : false ≡ true = e in cc)
gone_goal Plain o e = absurd (let f : false ≡ true = e in cc)

not_gone : (m : Mark) (o : Option Row) → is_gone m o ≡ false → withdrawn_mark m o ≡ m
not_gone Goal None e = absurd (let f : true ≡ false = e in cc)
not_gone Goal (Some row) e = refl
not_gone Obstacle o e = refl
not_gone Plain o e = refl

pub begins : (first : List Mark) (rows : List (Option Row)) → IsWithdrawing first rows 0 false first
begins first rows = record { one_each = refl; so_far = λ k lt. absurd (omega (arith, lt)); rest = λ k le. refl; same = λ e. refl; fewer = omega arith }

pub one_gone : (first : List Mark) (rows : List (Option Row)) (c : ℕ) (found : Bool) (marks : List Mark) → c < length first → IsWithdrawing first rows c found marks → is_gone (mark_at marks c) (row_of rows c) ≡ true → IsWithdrawing first rows (c + 1) true (set marks c Plain)
one_gone first rows c found marks lt h e =
    let here = gone_goal (mark_at marks c) (row_of rows c) e in
    let lc : c < length marks = omega (arith, h.one_each) in
    let sums = sum_by-set (λ m. one_if (is_goal m)) marks c Plain Plain lc in
    let was : one_if (is_goal (mark_at marks c)) ≡ 1 = ap (λ (m : Mark). one_if (is_goal m)) here.0 in
    let few = h.fewer in
    record {
      one_each = length-set marks c Plain ∙ h.one_each;
      so_far = λ k lk.
          elim (cases_eq k c) [
            | inl is ↦ subst (λ (j : ℕ). mark_at (set marks c Plain) j ≡ withdrawn_mark (mark_at first j) (row_of rows j)) (sym is)
                (get_or-set_same marks c Plain Plain lc ∙ (sym here.1 ∙ ap (λ (m : Mark). withdrawn_mark m (row_of rows c)) (h.rest c (omega arith))))
            | inr ne ↦ get_or-set_other marks c k Plain Plain ne ∙ h.so_far k (omega (arith, ne, lk))
          ];
      rest = λ k le. get_or-set_other marks c k Plain Plain (λ is. omega (arith, is, le)) ∙ h.rest k (omega (arith, le));
      same = λ f. absurd (let g : true ≡ false = f in cc);
      fewer = omega (arith, sums, was, few);
    }

pub one_stays : (first : List Mark) (rows : List (Option Row)) (c : ℕ) (found : Bool) (marks : List Mark) → IsWithdrawing first rows c found marks → is_gone (mark_at marks c) (row_of rows c) ≡ false → IsWithdrawing first rows (c + 1) found marks
one_stays first rows c found marks h e =
    let here = not_gone (mark_at marks c) (row_of rows c) e in
    record {
      one_each = h.one_each;
      so_far = λ k lk.
          elim (cases_eq k c) [
            | inl is ↦ subst (λ (j : ℕ). mark_at marks j ≡ withdrawn_mark (mark_at first j) (row_of rows j)) (sym is) (sym here ∙ ap (λ (m : Mark). withdrawn_mark m (row_of rows c)) (h.rest c (omega arith)))
            | inr ne ↦ h.so_far k (omega (arith, ne, lk))
          ];
      rest = λ k le. h.rest k (omega (arith, le));
      same = h.same;
      fewer = h.fewer;
    }

pub all_withdrawn : (first : List Mark) (rows : List (Option Row)) (c : ℕ) (found : Bool) (marks : List Mark) → length first ≤ c → IsWithdrawing first rows c found marks → marks ≡ withdrawn first rows
all_withdrawn first rows c found marks le h = fill_by_all (λ k. withdrawn_mark (mark_at first k) (row_of rows k)) marks (length first) Plain h.one_each (λ k lt. h.so_far k (omega (arith, le, lt)))

-- ---- marks of a turn

pub kept_goal : (m : Mark) (o : Option Row) → withdrawn_mark m o ≡ Goal → m ≡ Goal
kept_goal Goal o e = refl
kept_goal Obstacle o e = absurd (let f : Obstacle ≡ Goal = e in cc)
kept_goal Plain o e = absurd (let f : Plain ≡ Goal = e in cc)

pub kept_row : (m : Mark) (o : Option Row) → withdrawn_mark m o ≡ Goal → (row : Row) × (o ≡ Some row)
kept_row Goal None e = absurd (let f : Plain ≡ Goal = e in cc)
kept_row Goal (Some row) e = (row, refl)
kept_row Obstacle o e = absurd (let f : Obstacle ≡ Goal = e in cc)
kept_row Plain o e = absurd (let f : Plain ≡ Goal = e in cc)

kept_obstacle : (m : Mark) (o : Option Row) → withdrawn_mark m o ≡ Obstacle → m ≡ Obstacle
kept_obstacle Goal None e = absurd (let f : Plain ≡ Obstacle = e in cc)
kept_obstacle Goal (Some row) e = absurd (let f : Goal ≡ Obstacle = e in cc)
kept_obstacle Obstacle o e = refl
kept_obstacle Plain o e = absurd (let f : Plain ≡ Obstacle = e in cc)

pub new_mark : (marks : List Mark) (rows : List (Option Row)) (n c : ℕ) → length marks ≡ n → c < n → mark_at (withdrawn marks rows) c ≡ withdrawn_mark (mark_at marks c) (row_of rows c)
new_mark marks rows n c long lc = get_or-map-range_with_len (λ k. withdrawn_mark (mark_at marks k) (row_of rows k)) 0 (length marks) c c Plain (omega (arith, lc, long)) (omega arith)

-- they stay marks of the turn
pub still_turn_marks : (g : Game) (In : ℕ → Type 0) (marks : List Mark) (rows : List (Option Row)) → AreTurnMarks g In marks → AreTurnMarks g In (withdrawn marks rows)
still_turn_marks g In marks rows was = record {
  one_each = length-map-range_with_len (λ k. withdrawn_mark (mark_at marks k) (row_of rows k)) 0 (length marks) ∙ was.one_each;
  inside = λ c lc e. was.inside c lc (kept_goal (mark_at marks c) (row_of rows c) (sym (new_mark marks rows g.cells c was.one_each lc) ∙ e));
  obstacles = λ c lc. (
    λ e. (was.obstacles c lc).0 (kept_obstacle (mark_at marks c) (row_of rows c) (sym (new_mark marks rows g.cells c was.one_each lc) ∙ e)),
    λ m. new_mark marks rows g.cells c was.one_each lc ∙ ap (λ (m : Mark). withdrawn_mark m (row_of rows c)) ((was.obstacles c lc).1 m),
  );
}

-- the goals with a row stay
pub first_from_target : (p : Description) (g : Game) (kept : List (Option Row)) (j : ℕ) (marks : List Mark) → AreTargetMarks p g j marks → AreFirstMarks p g kept j (withdrawn marks kept)
first_from_target p g kept j marks was = record {
  turn_marks = still_turn_marks g (IsInTarget p j) marks kept was.turn_marks;
  all = λ c lc inside row.
      new_mark marks kept g.cells c was.turn_marks.one_each lc
      ∙ ap (λ (m : Mark). withdrawn_mark m (row_of kept c)) (was.all c lc inside)
      ∙ ap (withdrawn_mark Goal) row.1;
}
