-- The rows of the solution of reach and stay fit their plant: under other marks they are those of a reach solution, whose ranks are
-- below the number of cells.
use Rattle.std.proofs.Common.{◌≡◌, ℕ, zero, suc, ◌-◌, ◌<◌, Bool, true, false, cond, eqb, List, map, Option, Some, None, refl, sym, ◌∙◌, ap, subst, arith}
use Rattle.std.specs.Prelude.{IfSome}
use Rattle.std.specs.List.{range_with_len}
use Rattle.std.proofs.lemmas.Bool.{eqb-true, eqb-false}
use Rattle.std.proofs.lemmas.List.FromFn.{length-map-range_with_len, get_or-map-range_with_len}
use Rattle.std.proofs.lemmas.List.Elements.{All-from_get_or}
use Rattle.game_core.specs.declared.game.Mark.{Mark}
use Rattle.game_core.specs.declared.game.Mark.TheVariants.{Goal, Obstacle, Plain}
use Rattle.game_core.specs.declared.game.Row.{Row}
use Rattle.game_core.specs.Game.{Game, IsGame, mark_of, with_marks}
use Rattle.game_core.specs.Solution.{row_of, LeadsWithinTo, IsReachRow, IsReachSolution}
use Rattle.game_core.specs.Strategy.{Tree, Leaf, Apply, LeadsTo, depth_of}
use Rattle.game_core.proofs.RankBound.{rank_below}
use Rattle.plant_record.specs.Description.{Description}
use Rattle.temporal_games.specs.Held.{IsHeld}
use Rattle.temporal_games.specs.Stay.{IsStayedBy, IsStayRow, IsStaySolution}
use Rattle.game_core.proofs.Carried.{remarked_game}
use Rattle.temporal_games.proofs.Trees.{AreMarksFor, from_wins, to_rank, to_within, from_within}
use Rattle.plant_game.specs.Abstraction.{IsGameOf}
use Rattle.row_reading.specs.RowsTexts.{IsRowWithin, AreRowsWithin}
use Rattle.controller_table.specs.TextKinds.{stay_rules, turn_rules}
use Rattle.controller_table.specs.declared.text_kind.TextKind.TheVariants.{Stay}
use Rattle.controller_table.proofs.TableTexts.{one_within}
use Rattle.temporal_texts.specs.StayText.{stay_text, IsStayText}
use Rattle.game_core.proofs.Rows.{below_from_row}
use Rattle.plant_record.specs.Limits.{IsWithinLimits}

-- the mark of a cell that is no end
abbrev way_mark : Mark → Mark
way_mark Goal = Plain
way_mark Obstacle = Obstacle
way_mark Plain = Plain

-- a cell of rank 0 is a goal, and no other
abbrev mark_by : Mark → Option Row → Mark
mark_by m None = way_mark m
mark_by m (Some row) = cond (eqb row.rank 0) Goal (way_mark m)

no_goal : (m : Mark) → way_mark m ≡ Goal → ⊥
no_goal Goal e = cc
no_goal Obstacle e = cc
no_goal Plain e = cc

way_blocked : (m : Mark) → way_mark m ≡ Obstacle → m ≡ Obstacle
way_blocked Goal e = absurd (let f : Plain ≡ Obstacle = e in cc)
way_blocked Obstacle e = refl
way_blocked Plain e = absurd (let f : Plain ≡ Obstacle = e in cc)

-- a reach solution has input 0 at rank 0
abbrev row_for : ℕ → ℕ → Row
row_for zero u = record { rank = 0; input = 0 }
row_for (suc k) u = record { rank = suc k; input = u }

abbrev reach_row : Option Row → Option Row
reach_row None = None
reach_row (Some row) = Some (row_for row.rank row.input)

rank_of : (k u : ℕ) → (row_for k u).rank ≡ k
rank_of zero u = refl
rank_of (suc k) u = refl

module _ (g : Game) (a : IsGame g) (rows : List (Option Row)) (s : IsStaySolution g rows) where
  marks : List Mark
  marks = map (λ c. mark_by (mark_of g c) (row_of rows c)) (range_with_len 0 g.cells)

  reach_rows : List (Option Row)
  reach_rows = map (λ c. reach_row (row_of rows c)) (range_with_len 0 g.cells)

  mark_at : (c : ℕ) → c < g.cells → mark_of (with_marks g marks) c ≡ mark_by (mark_of g c) (row_of rows c)
  unfolding marks
  mark_at c lt = get_or-map-range_with_len (λ c. mark_by (mark_of g c) (row_of rows c)) 0 g.cells c c Plain lt (omega arith)

  stayed : (c : ℕ) (o : Option Row) → c < g.cells → row_of rows c ≡ o → IsStayRow g c o
  stayed c o lt e = subst (IsStayRow g c) e (s.each c lt)

  held_at : (c : ℕ) (t : Tree) → LeadsTo (IsHeld g) g t c → depth_of t ≡ 0 → IsHeld g c
  held_at c Leaf l e = l
  held_at c (Apply u next) l e = absurd (omega arith)

  ends : AreMarksFor g (IsHeld g) marks
  unfolding marks
  ends = record {
    one_each = length-map-range_with_len (λ c. mark_by (mark_of g c) (row_of rows c)) 0 g.cells;
    goals = λ c lt. (λ e. goal_held c lt (row_of rows c) refl (sym (mark_at c lt) ∙ e), λ h. mark_at c lt ∙ held_goal c lt (row_of rows c) refl h);
    obstacles = λ c lt. (λ e. from_blocked c (row_of rows c) (sym (mark_at c lt) ∙ e), λ m. mark_at c lt ∙ to_blocked c lt (row_of rows c) refl m);
  }
    where
      goal_held : (c : ℕ) → c < g.cells → (o : Option Row) → row_of rows c ≡ o → mark_by (mark_of g c) o ≡ Goal → IsHeld g c
      goal_held c lt None e m = absurd (no_goal (mark_of g c) m)
      goal_held c lt (Some row) e m = by_rank (eqb row.rank 0) refl m
        where
          by_rank : (b : Bool) → eqb row.rank 0 ≡ b → cond b Goal (way_mark (mark_of g c)) ≡ Goal → IsHeld g c
          by_rank false f m = absurd (no_goal (mark_of g c) m)
          by_rank true f m =
              let reached = (stayed c (Some row) lt e).rank.reached in
              let none = eqb-true row.rank 0 f in
              let deep = reached.2 in
              held_at c reached.0 reached.1 (omega (arith, none, deep))

      held_goal : (c : ℕ) → c < g.cells → (o : Option Row) → row_of rows c ≡ o → IsHeld g c → mark_by (mark_of g c) o ≡ Goal
      held_goal c lt None e h = absurd (stayed c None lt e Leaf h)
      held_goal c lt (Some row) e h = by_rank (eqb row.rank 0) refl
        where
          by_rank : (b : Bool) → eqb row.rank 0 ≡ b → cond b Goal (way_mark (mark_of g c)) ≡ Goal
          by_rank true f = refl
          by_rank false f = absurd (let le = (stayed c (Some row) lt e).rank.least Leaf h in let some = eqb-false row.rank 0 f in omega (arith, le, some))

      from_blocked : (c : ℕ) (o : Option Row) → mark_by (mark_of g c) o ≡ Obstacle → mark_of g c ≡ Obstacle
      from_blocked c None m = way_blocked (mark_of g c) m
      from_blocked c (Some row) m = by_rank (eqb row.rank 0) m
        where
          by_rank : (b : Bool) → cond b Goal (way_mark (mark_of g c)) ≡ Obstacle → mark_of g c ≡ Obstacle
          by_rank true m = absurd (let f : Goal ≡ Obstacle = m in cc)
          by_rank false m = way_blocked (mark_of g c) m

      to_blocked : (c : ℕ) → c < g.cells → (o : Option Row) → row_of rows c ≡ o → mark_of g c ≡ Obstacle → mark_by (mark_of g c) o ≡ Obstacle
      to_blocked c lt None e m = ap way_mark m
      to_blocked c lt (Some row) e m = by_rank (eqb row.rank 0) refl
        where
          by_rank : (b : Bool) → eqb row.rank 0 ≡ b → cond b Goal (way_mark (mark_of g c)) ≡ Obstacle
          by_rank false f = ap way_mark m
          by_rank true f = absurd (let h = goal_held c lt (Some row) e (ap (λ (b : Bool). cond b Goal (way_mark (mark_of g c))) f) in let goal : mark_of g c ≡ Goal = h 0 in cc)

  by_stay : (c k u : ℕ) → c < g.cells → IsStayedBy g c (record { rank = k; input = u }) → IsReachRow (with_marks g marks) c (Some (row_for k u))
  by_stay c zero u lt by = (to_rank g a (IsHeld g) marks ends c 0 lt by.rank, refl)
  by_stay c (suc k) u lt by =
      let less : suc k - 1 ≡ k = omega arith in (
        to_rank g a (IsHeld g) marks ends c (suc k) lt by.rank,
        (
          to_within g a (IsHeld g) marks ends c u k (subst (LeadsWithinTo (IsHeld g) g c u) less by.leads),
          λ v l. by.least v (subst (LeadsWithinTo (IsHeld g) g c v) (sym less) (from_within g a (IsHeld g) marks ends c v k l)),
        ),
      )

  by_row : (c : ℕ) → c < g.cells → (o : Option Row) → row_of rows c ≡ o → IsReachRow (with_marks g marks) c (reach_row o)
  by_row c lt None e = λ t w. stayed c None lt e t (from_wins g a (IsHeld g) marks ends t c lt w)
  by_row c lt (Some row) e = by_stay c row.rank row.input lt (stayed c (Some row) lt e)

  row_at : (c : ℕ) → c < g.cells → row_of reach_rows c ≡ reach_row (row_of rows c)
  unfolding reach_rows
  row_at c lt = get_or-map-range_with_len (λ c. reach_row (row_of rows c)) 0 g.cells c c None lt (omega arith)

  reaches : IsReachSolution (with_marks g marks) reach_rows
  unfolding reach_rows
  reaches = record {
    one_each = length-map-range_with_len (λ c. reach_row (row_of rows c)) 0 g.cells;
    each = λ c lt. subst (IsReachRow (with_marks g marks) c) (sym (row_at c lt)) (by_row c lt (row_of rows c) refl);
  }

  pub ranks_fit : (c : ℕ) (row : Row) → row_of rows c ≡ Some row → row.rank < g.cells
  ranks_fit c row e =
      let at = below_from_row rows c row e in
      let lt : c < g.cells = omega (arith, at, s.one_each) in
      let low = rank_below (with_marks g marks) reach_rows (remarked_game g marks ends.one_each a) reaches c (row_for row.rank row.input) (row_at c lt ∙ ap reach_row e) in
      omega (arith, low, rank_of row.rank row.input)

pub stay_rows_fit : (p : Description) (g : Game) (rows : List (Option Row)) → IsGameOf p g → IsStaySolution g rows → AreRowsWithin (stay_rules p) rows
stay_rows_fit p g rows a s = record {
  one_each = s.one_each ∙ a.cells;
  each = All-from_get_or (λ row. IfSome row (IsRowWithin (stay_rules p))) rows None (λ c lt. let n = s.one_each in fits c (row_of rows c) refl (s.each c (omega (arith, lt, n))));
}
  where
    fits : (c : ℕ) (o : Option Row) → row_of rows c ≡ o → IsStayRow g c o → IfSome o (IsRowWithin (stay_rules p))
    fits c None e r = tt
    fits c (Some row) e r = record {
      told = tt;
      least = omega arith;
      most = let below = ranks_fit g a.game rows s c row e in omega (arith, below, a.cells);
      input = subst (λ (n : ℕ). row.input < n) a.inputs r.leads.0.0;
    }

-- the text of the solution is one
pub solution_has_stay_text : (p : Description) (g : Game) (rows : List (Option Row)) → IsWithinLimits p → IsGameOf p g → IsStaySolution g rows → IsStayText (stay_text p rows) p rows
solution_has_stay_text p g rows within game solution = record { limits = within; few = tt; within = one_within (turn_rules Stay p) rows refl (stay_rows_fit p g rows game solution); text = refl }
