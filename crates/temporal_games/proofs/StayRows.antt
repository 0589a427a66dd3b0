-- The rows of the two solvers, put together, are the solution of reach and stay.
use Rattle.std.proofs.Common.{◌≡◌, ℕ, zero, suc, ◌-◌, ◌<◌, List, get_or, Option, Some, None, arith, refl, sym, ◌∙◌, ap, subst}
use Rattle.std.proofs.lemmas.List.FromFn.{length-map-range_with_len, get_or-map-range_with_len}
use Rattle.game_core.specs.declared.game.Mark.{Mark}
use Rattle.game_core.specs.declared.game.Mark.TheVariants.{Goal, Obstacle, Plain}
use Rattle.game_core.specs.declared.game.Row.{Row}
use Rattle.game_core.specs.Game.{Game, IsGame, mark_of, pair_of, successors_of, with_marks}
use Rattle.game_core.specs.Strategy.{Tree, Leaf, Apply, LeadsTo, depth_of, IsRankTo, IsRank}
use Rattle.game_core.specs.Keep.{IsKeptBy, IsKeepRow, IsKeepSolution}
use Rattle.game_core.specs.Solution.{row_of, LeadsWithinTo, IsReachRow, IsChosenInput, IsReachSolution}
use Rattle.temporal_games.specs.Held.{IsHeld}
use Rattle.temporal_games.specs.Stay.{IsStayedBy, IsStayRow, IsStaySolution}
use Rattle.temporal_games.specs.inside.StayMarks.{goals_alone, end_mark, marks_to_reach, either_row, rows_over}
use Rattle.game_core.proofs.Rows.{successors_below}
use Rattle.temporal_games.proofs.Trees.{AreMarksFor, to_wins, from_rank, to_within, from_within}
use Rattle.temporal_games.proofs.HeldCells.{held_if_kept, kept_if_held}

end_goal : (m : Mark) (row : Row) → end_mark m (Some row) ≡ Goal
end_goal Goal row = refl
end_goal Obstacle row = refl
end_goal Plain row = refl

no_end : (m : Mark) → end_mark m None ≡ Goal → ⊥
no_end Goal e = cc
no_end Obstacle e = cc
no_end Plain e = cc

end_blocked : (m : Mark) (o : Option Row) → end_mark m o ≡ Obstacle → m ≡ Obstacle
end_blocked Goal None e = absurd (let f : Plain ≡ Obstacle = e in cc)
end_blocked Obstacle None e = refl
end_blocked Plain None e = absurd (let f : Plain ≡ Obstacle = e in cc)
end_blocked m (Some row) e = absurd (let f : Goal ≡ Obstacle = sym (end_goal m row) ∙ e in cc)

module _ (g : Game) (a : IsGame g) (kept : List (Option Row)) (k : IsKeepSolution (goals_alone g) kept) where
  kept_by : (c : ℕ) (row : Row) → c < g.cells → row_of kept c ≡ Some row → IsKeptBy (goals_alone g) c row
  kept_by c row lt e = subst (IsKeepRow (goals_alone g) c) e (k.each c lt)

  row_is_held : (c : ℕ) (row : Row) → c < g.cells → row_of kept c ≡ Some row → IsHeld g c
  row_is_held c row lt e = held_if_kept g a c lt (kept_by c row lt e).kept

  no_row_is_lost : (c : ℕ) → c < g.cells → row_of kept c ≡ None → IsHeld g c → ⊥
  no_row_is_lost c lt e held = (subst (IsKeepRow (goals_alone g) c) e (k.each c lt)) (kept_if_held g a c lt held)

  end_at : (c : ℕ) → c < g.cells → mark_of (with_marks g (marks_to_reach g kept)) c ≡ end_mark (mark_of g c) (row_of kept c)
  end_at c lt = get_or-map-range_with_len (λ c. end_mark (mark_of g c) (row_of kept c)) 0 g.cells c c Plain lt (omega arith)

  pub ends_are_held : AreMarksFor g (IsHeld g) (marks_to_reach g kept)
  ends_are_held = record {
    one_each = length-map-range_with_len (λ c. end_mark (mark_of g c) (row_of kept c)) 0 g.cells;
    goals = λ c lt. (λ e. held c lt (row_of kept c) refl (sym (end_at c lt) ∙ e), λ h. end_at c lt ∙ marked c lt (row_of kept c) refl h);
    obstacles = λ c lt. (λ e. end_blocked (mark_of g c) (row_of kept c) (sym (end_at c lt) ∙ e), λ m. end_at c lt ∙ blocked c lt (row_of kept c) refl m);
  }
    where
      held : (c : ℕ) → c < g.cells → (o : Option Row) → row_of kept c ≡ o → end_mark (mark_of g c) (row_of kept c) ≡ Goal → IsHeld g c
      held c lt None e m = absurd (no_end (mark_of g c) (sym (ap (end_mark (mark_of g c)) e) ∙ m))
      held c lt (Some row) e m = row_is_held c row lt e

      marked : (c : ℕ) → c < g.cells → (o : Option Row) → row_of kept c ≡ o → IsHeld g c → end_mark (mark_of g c) (row_of kept c) ≡ Goal
      marked c lt None e h = absurd (no_row_is_lost c lt e h)
      marked c lt (Some row) e h = ap (end_mark (mark_of g c)) e ∙ end_goal (mark_of g c) row

      blocked : (c : ℕ) → c < g.cells → (o : Option Row) → row_of kept c ≡ o → mark_of g c ≡ Obstacle → end_mark (mark_of g c) (row_of kept c) ≡ Obstacle
      blocked c lt None e m = ap (end_mark (mark_of g c)) e ∙ ap (λ (m : Mark). end_mark m None) m
      blocked c lt (Some row) e m = absurd (let goal : mark_of g c ≡ Goal = row_is_held c row lt e 0 in cc)

-- where a strategy of depth 0 leads to an end, one stands there
end_from_leaf : (g : Game) (End : ℕ → Type 0) (c : ℕ) (t : Tree) → LeadsTo End g t c → depth_of t ≡ 0 → End c
end_from_leaf g End c Leaf l e = l
end_from_leaf g End c (Apply u next) l e = absurd (omega arith)

held_rank : (g : Game) (c : ℕ) → IsHeld g c → IsRankTo (IsHeld g) g c 0
held_rank g c held = record { reached = (Leaf, held, refl); least = λ t l. omega arith }

module _ (g : Game) (a : IsGame g) (kept others : List (Option Row)) (k : IsKeepSolution (goals_alone g) kept) (r : IsReachSolution (with_marks g (marks_to_reach g kept)) others) where
  marks : AreMarksFor g (IsHeld g) (marks_to_reach g kept)
  marks = ends_are_held g a kept k

  by_kept : (c : ℕ) (row : Row) → c < g.cells → row_of kept c ≡ Some row → IsStayedBy g c row
  by_kept c row lt e =
      let by = kept_by g a kept k c row lt e in
      let none = by.rank in
      let held = row_is_held g a kept k c row lt e in
      record {
        rank = record { reached = (Leaf, held, sym none); least = λ t l. omega (arith, none) };
        leads = (by.leads.0, λ i d li. (0, omega arith, held_rank g (get_or (successors_of g c row.input) i d) (held_if_kept g a (get_or (successors_of g c row.input) i d) (successors_below g a (pair_of g c row.input) i d li) (by.leads.1 i d li))));
        least = λ v l. by.least v (
          l.0,
          λ i d li.
              let s = get_or (successors_of g c v) i d in
              let rank = l.1 i d li in
              let le = rank.1 in
              let tree = rank.2.reached in
              let deep = tree.2 in
              kept_if_held g a (get_or (successors_of g c v) i d) (successors_below g a (pair_of g c v) i d li) (end_from_leaf g (IsHeld g) (get_or (successors_of g c v) i d) tree.0 tree.1 (omega (arith, none, le, deep))),
        );
      }

  by_rank : (c n u : ℕ) → c < g.cells → row_of kept c ≡ None → IsRank (with_marks g (marks_to_reach g kept)) c n → IsChosenInput (with_marks g (marks_to_reach g kept)) c n u → IsStayedBy g c (record { rank = n; input = u })
  by_rank c zero u lt none rank chosen =
      let here = from_rank g a (IsHeld g) (marks_to_reach g kept) marks c 0 lt rank in
      let tree = here.reached in
      absurd (no_row_is_lost g a kept k c lt none (end_from_leaf g (IsHeld g) c tree.0 tree.1 tree.2))
  by_rank c (suc n) u lt none rank chosen =
      let less : suc n - 1 ≡ n = omega arith in
      record {
        rank = from_rank g a (IsHeld g) (marks_to_reach g kept) marks c (suc n) lt rank;
        leads = subst (LeadsWithinTo (IsHeld g) g c u) (sym less) (from_within g a (IsHeld g) (marks_to_reach g kept) marks c u n chosen.0);
        least = λ v l. chosen.1 v (to_within g a (IsHeld g) (marks_to_reach g kept) marks c v n (subst (LeadsWithinTo (IsHeld g) g c v) less l));
      }

  either : (c : ℕ) → c < g.cells → (o p : Option Row) → row_of kept c ≡ o → row_of others c ≡ p → IsStayRow g c (either_row o p)
  either c lt (Some row) p e f = by_kept c row lt e
  either c lt None None e f =
      let none = subst (IsReachRow (with_marks g (marks_to_reach g kept)) c) f (r.each c lt) in
      λ t l. none t (to_wins g a (IsHeld g) (marks_to_reach g kept) marks t c lt l)
  either c lt None (Some row) e f =
      let is = subst (IsReachRow (with_marks g (marks_to_reach g kept)) c) f (r.each c lt) in
      by_rank c row.rank row.input lt e is.0 is.1

  pub stays : IsStaySolution g (rows_over g.cells kept others)
  stays = record {
    one_each = length-map-range_with_len (λ c. either_row (row_of kept c) (row_of others c)) 0 g.cells;
    each = λ c lt. subst (IsStayRow g c) (sym (get_or-map-range_with_len (λ c. either_row (row_of kept c) (row_of others c)) 0 g.cells c c None lt (omega arith))) (either c lt (row_of kept c) (row_of others c) refl refl);
  }
