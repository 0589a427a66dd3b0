-- Each round of the rule leads on to the next.
use Rattle.std.proofs.Common.{inl, ◌≡◌, ℕ, suc, ◌<◌, ◌≤◌, List, ◌++◌, length, arith, refl}
use Rattle.cell_counters.specs.declared.account.Account.{Account}
use Rattle.cell_counters.specs.Accounts.{all_logs}
use Rattle.cell_counters.specs.BoardModels.{BoardModel, IsLawful}
use Rattle.game_core.specs.Counts.{times}
use Rattle.game_core.specs.Fallen.{has_fallen}
use Rattle.game_core.specs.Game.{Game, IsGraph}
use Rattle.board_rounds.specs.Crew.{logged_cells}
use Rattle.board_rounds.specs.Rules.{IsRound, LeadsOn}
use Rattle.safety_game.specs.KeepBoards.{IsBoardOf}
use Rattle.safety_game.specs.inside.KeepRounds.{KeepsRule}
use Rattle.safety_game.specs.inside.KeepInvariant.{IsKeepInvariant, IsRunnable}
use Rattle.safety_game.proofs.OnBoards.{counters_of_board, lawful_for}
use Rattle.safety_game.proofs.InStep.{nothing_in_step}
use Rattle.safety_game.proofs.LeadsOn.{round_leads_on}
use Rattle.safety_game.proofs.Begins.{begins, full_after, few_logs}

module _ (g : Game) (a : IsGraph g) (board : BoardModel) (of_game : IsBoardOf g board) where
  next_stand : (d : ℕ) (list next : List ℕ) (accounts more : List Account) → d ≤ g.cells → 0 < length list → IsKeepInvariant g d list accounts → IsRound g (KeepsRule g) list more
      → IsLawful (accounts ++ more) board.starts board.least → ((c : ℕ) → times c next ≡ times c (logged_cells (all_logs more))) → IsKeepInvariant g (suc d) next (accounts ++ more)
  next_stand d list next accounts more early some' was round lawful same = record {
    falling = round_leads_on g a d list accounts more was.falling round (lawful_for g a board of_game (accounts ++ more) lawful) next same;
    full = full_after g a d list accounts was.falling some';
  }

  leads_on : LeadsOn g board (has_fallen g 0) (λ d. KeepsRule g) (IsKeepInvariant g)
  leads_on = record {
    graph = a;
    counters = let many = counters_of_board g a board of_game in omega arith;
    fresh = λ d. record { in_step = nothing_in_step g; no_offer = refl };
    noted = λ d account item h. record { in_step = h.in_step; no_offer = h.no_offer };
    begins = record { falling = begins g a; full = inl refl };
    within = λ d list accounts h. h.falling.within;
    few = λ d list accounts h. few_logs g a d list accounts h.falling;
    next = next_stand;
  }

  pub runnable : IsRunnable g board
  runnable = record { of_game = of_game; leads = leads_on }
