-- Each round of the rule leads on to the next.
use Rattle.std.proofs.Common.{inl, ◌≡◌, ℕ, suc, ◌^◌, ◌<◌, ◌≤◌, List, ◌++◌, length, arith, refl, ◌∙◌, ap}
use Rattle.std.proofs.lemmas.List.Elements.{All-nil}
use Rattle.cell_counters.specs.declared.account.Cut.{Cut}
use Rattle.cell_counters.specs.declared.account.Account.{Account}
use Rattle.cell_counters.specs.Accounts.{all_logs}
use Rattle.cell_counters.specs.BoardModels.{BoardModel, IsLawful}
use Rattle.game_core.specs.Counts.{times}
use Rattle.game_core.specs.Game.{Game, IsGraph, pairs_of, mark_of}
use Rattle.board_rounds.specs.Crew.{logged_cells}
use Rattle.board_rounds.specs.Rules.{IsRound, LeadsOn}
use Rattle.reach_avoid.specs.ReachBoards.{IsBoardOf}
use Rattle.reach_avoid.specs.inside.ReachRounds.{decoded_rows, KeepsRule, IsLawfulFor, is_goal}
use Rattle.reach_avoid.specs.inside.ReachInvariant.{IsReachInvariant, IsRunnable}
use Rattle.reach_avoid.proofs.OnBoards.{counters_of_board, lawful_for}
use Rattle.reach_avoid.proofs.Added.{logs_added}
use Rattle.reach_avoid.proofs.LeadsOn.{next_rows, round_leads_on}
use Rattle.reach_avoid.proofs.Begins.{begins, full_after, few_logs}

module _ (g : Game) (a : IsGraph g) (board : BoardModel) (of_game : IsBoardOf g board) where
  next_stand : (rank : ℕ) (list next : List ℕ) (accounts more : List Account) → rank ≤ g.cells → 0 < length list → IsReachInvariant g rank list accounts → IsRound g (KeepsRule g rank) list more
      → IsLawful (accounts ++ more) board.starts board.least → ((c : ℕ) → times c next ≡ times c (logged_cells (all_logs more))) → IsReachInvariant g (suc rank) next (accounts ++ more)
  next_stand rank list next accounts more early some' was round lawful same =
      let low : rank < 2 ^ 31 = (let b = a.cells_bound in omega arith) in
      let after : IsLawfulFor g (accounts ++ more) = lawful_for g a board of_game (accounts ++ more) lawful in
      record {
        reached = round_leads_on g a rank low list accounts more was.reached round after next (λ c. same c ∙ ap (times c) (logs_added g rank more round.each));
        full = full_after g a rank list accounts (decoded_rows g (accounts ++ more)) was.reached (next_rows g a rank low list accounts more was.reached round after) some';
      }

  leads_on : LeadsOn g board (λ c. is_goal (mark_of g c)) (KeepsRule g) (IsReachInvariant g)
  leads_on = record {
    graph = a;
    counters = let many = counters_of_board g a board of_game in omega arith;
    fresh = λ rank. record { no_other_cut = All-nil (λ (c : Cut). c.counter < pairs_of g); offers = refl; logs = refl };
    noted = λ rank account item h. record { no_other_cut = h.no_other_cut; offers = h.offers; logs = h.logs };
    begins = record { reached = begins g a; full = inl refl };
    within = λ rank list accounts h. h.reached.within;
    few = λ rank list accounts h. few_logs g a accounts h.reached.lawful h.reached.valued h.reached.logs;
    next = next_stand;
  }

  pub runnable : IsRunnable g board
  runnable = record { of_game = of_game; leads = leads_on }
