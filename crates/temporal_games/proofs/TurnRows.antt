-- The rows of a turn: those of the reach solution where no arrival is, and the best ones at arrivals.
use Rattle.std.proofs.Common.{inl, inr, ◌≡◌, ◌≢◌, ℕ, ◌+◌, ◌<◌, List, length, set, Option, Some, None, arith, refl, sym, ap, ◌∙◌, subst, length-set, get_or-set_same, get_or-set_other}
use Rattle.std.proofs.lemmas.Bool.{cases_eq}
use Rattle.game_core.specs.declared.game.Mark.{Mark}
use Rattle.game_core.specs.declared.game.Mark.TheVariants.{Goal, Obstacle, Plain}
use Rattle.game_core.specs.declared.game.Row.{Row}
use Rattle.game_core.specs.Game.{Game, IsGame, with_marks}
use Rattle.game_core.specs.Strategy.{Trees, Apply, LeadsTo}
use Rattle.game_core.specs.Solution.{row_of, IsReachSolution}
use Rattle.game_core.specs.Right.{IsRightAt, IsRightPlain, AreRight}
use Rattle.temporal_games.specs.Patrol.{IsLaterReachRow}
use Rattle.temporal_games.specs.inside.PatrolSearch.{mark_at, AreTurnMarks}
use Rattle.game_core.proofs.Carried.{remarked_game, carried}
use Rattle.temporal_games.proofs.LaterReachRows.{later_reach_row}

module _ (g : Game) (a : IsGame g) (marks : List Mark) (m : AreTurnMarks g (λ c. Unit {0}) marks) (rows : List (Option Row)) (h : IsReachSolution (with_marks g marks) rows) where
  abbrev Ends : ℕ → Type 0
  Ends s = mark_at marks s ≡ Goal

  to_marks : (v : ℕ) (next : Trees) (c : ℕ) → c < g.cells → LeadsTo Ends g (Apply v next) c → LeadsTo Ends (with_marks g marks) (Apply v next) c
  to_marks v next c lt l = carried g g.marks marks Ends Ends a (λ s ls e. e) (λ s ls clear o. clear ((m.obstacles s ls).0 o)) (Apply v next) c lt l

  from_marks : (v : ℕ) (next : Trees) (c : ℕ) → c < g.cells → LeadsTo Ends (with_marks g marks) (Apply v next) c → LeadsTo Ends g (Apply v next) c
  from_marks v next c lt l = carried g marks g.marks Ends Ends a (λ s ls e. e) (λ s ls clear o. clear ((m.obstacles s ls).1 o)) (Apply v next) c lt l

  back : (c : ℕ) → c < g.cells → (o : Option Row) → IsLaterReachRow Ends (with_marks g marks) c o → IsLaterReachRow Ends g c o
  back c lt None none = λ t. none (t.0, t.1, to_marks t.0 t.1 c lt t.2)
  back c lt (Some row) r = record {
    reached = (r.reached.0, from_marks row.input r.reached.0 c lt r.reached.1, r.reached.2);
    least = λ v next l. r.least v next (to_marks v next c lt l);
    first = λ v next l. r.first v next (to_marks v next c lt l);
  }

  clear : (c : ℕ) → mark_at marks c ≡ Goal → mark_at marks c ≢ Obstacle
  clear c e o = cc

  pub at_arrival : (c : ℕ) → c < g.cells → mark_at marks c ≡ Goal → (o : Option Row) → IsRightPlain (with_marks g marks) rows c o → IsLaterReachRow Ends g c o
  at_arrival c lt e o right = back c lt o (later_reach_row (with_marks g marks) (remarked_game g marks m.one_each a) rows h c (clear c e) o right)

  pub elsewhere : AreRight (with_marks g marks) rows → (c : ℕ) → c < g.cells → mark_at marks c ≢ Goal → IsLaterReachRow Ends g c (row_of rows c)
  elsewhere right c lt ne = by_mark (mark_at marks c) refl
    where
      blocked : mark_at marks c ≡ Obstacle → (o : Option Row) → o ≡ None → IsLaterReachRow Ends g c o
      blocked e None none = λ t. t.2.0 ((m.obstacles c lt).0 e)
      blocked e (Some row) none = absurd (cc)

      by_mark : (k : Mark) → mark_at marks c ≡ k → IsLaterReachRow Ends g c (row_of rows c)
      by_mark Goal e = absurd (ne e)
      by_mark Obstacle e = blocked e (row_of rows c) (subst (λ (k : Mark). IsRightAt (with_marks g marks) rows c k (row_of rows c)) e (right.each c lt))
      by_mark Plain e = back c lt (row_of rows c)
          (later_reach_row (with_marks g marks) (remarked_game g marks m.one_each a) rows h c (λ o. cc) (row_of rows c) (subst (λ (k : Mark). IsRightAt (with_marks g marks) rows c k (row_of rows c)) e (right.each c lt)))

-- one row more
pub one_row_more : (P : ℕ → Option Row → Type 0) (rows : List (Option Row)) (c : ℕ) (row : Option Row) (n : ℕ) → c < n → length rows ≡ n → ((k : ℕ) → k < c → P k (row_of rows k)) → P c row → (next : List (Option Row)) → next ≡ set rows c row → (length next ≡ n) × ((k : ℕ) → k < c + 1 → P k (row_of next k))
one_row_more P rows c row n lt many before here next is = (
  ap (λ (r : List (Option Row)). length r) is ∙ (length-set rows c row ∙ many),
  λ k lk.
      elim (cases_eq k c) [
        | inl e ↦ subst (λ (o : Option Row). P k o) (sym (ap (row_of next) e ∙ (ap (λ (r : List (Option Row)). row_of r c) is ∙ get_or-set_same rows c row None (omega (arith, lt, many))))) (subst (λ (j : ℕ). P j row) (sym e) here)
        | inr ne ↦ subst (λ (o : Option Row). P k o) (sym (ap (λ (r : List (Option Row)). row_of r k) is ∙ get_or-set_other rows c k row None ne)) (before k (omega (arith, ne, lk)))
      ],
)
