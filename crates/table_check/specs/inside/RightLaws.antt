-- A cell that is right in games which are the same there.
use Rattle.std.proofs.Common.{ℕ, zero, suc, ◌<◌, List, All, Contains, Option, Some, None, sym, ap, subst, ◌∙◌}
use Rattle.game_core.specs.declared.game.Mark.{Mark}
use Rattle.game_core.specs.declared.game.Mark.TheVariants.{Goal, Obstacle, Plain}
use Rattle.game_core.specs.declared.game.Row.{Row}
use Rattle.game_core.specs.Game.{Game, mark_of, IsEnabled}
use Rattle.game_core.specs.Right.{LeadsDownTo, IsBestInput, IsUnwinnable, IsRight, IsRightAt, IsRightRanked}
use Rattle.game_core.specs.Solution.{row_of, greatest_rank, HasRow, HasRowBelow}
use Rattle.game_core.specs.Judging.{IsSameAt}

same_back : (c : ℕ) (g h : Game) → IsSameAt c g h → IsSameAt c h g
same_back c g h same = record {
  cells = sym same.cells;
  inputs = sym same.inputs;
  mark = sym same.mark;
  successors = λ u lt. sym (same.successors u (subst (λ (n : ℕ). u < n) same.inputs lt));
}

module _ (g h : Game) (rows : List (Option Row)) (c : ℕ) (same : IsSameAt c g h) where
  enabled_too : (u : ℕ) → IsEnabled g c u → IsEnabled h c u
  enabled_too u e = (subst (λ (n : ℕ). u < n) (sym same.inputs) e.0, λ none. e.1 (sym (same.successors u e.0) ∙ none))

  leads_too : (u k : ℕ) → LeadsDownTo g rows c u k → LeadsDownTo h rows c u k
  leads_too u k x =
      let at = same.successors u x.enabled.0 in
      record {
        enabled = enabled_too u x.enabled;
        ranked = subst (All (HasRow rows)) (sym at) x.ranked;
        greatest = ap (greatest_rank rows) at ∙ x.greatest;
      }

-- only the mark and the successors of a cell matter
pub same_right : (g h : Game) (rows : List (Option Row)) (c : ℕ) → IsSameAt c g h → IsRight g rows c → IsRight h rows c
same_right g h rows c same right = subst (λ (m : Mark). IsRightAt h rows c m (row_of rows c)) (sym same.mark) (at (mark_of g c) (row_of rows c) right)
  where
    back : IsSameAt c h g
    back = same_back c g h same

    unwinnable : IsUnwinnable g rows c → IsUnwinnable h rows c
    unwinnable x = λ v enabled.
        let here = enabled_too h g rows c back v enabled in
        let out = x v here in
        (out.0, subst (λ (xs : List ℕ). Contains xs out.0) (sym (same.successors v here.0)) out.1, out.2)

    best : (u k : ℕ) → IsBestInput g rows c u k → IsBestInput h rows c u k
    best u k x = record {
      leads = leads_too g h rows c same u k x.leads;
      none_further = λ v enabled all.
          let here = enabled_too h g rows c back v enabled in
          x.none_further v here (subst (All (HasRowBelow rows k)) (same.successors v here.0) all);
      none_lesser = λ v lt leads. x.none_lesser v lt (leads_too h g rows c back v k leads);
    }

    ranked : (k u : ℕ) → IsRightRanked g rows c k u → IsRightRanked h rows c k u
    ranked zero u x = x
    ranked (suc k) u x = best u k x

    at : (m : Mark) (row : Option Row) → IsRightAt g rows c m row → IsRightAt h rows c m row
    at Obstacle row x = x
    at Goal row x = x
    at Plain None x = unwinnable x
    at Plain (Some row) x = ranked row.rank row.input x
