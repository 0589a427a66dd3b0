-- What stands with no cell on the list, and what a solved game is then.
use Rattle.std.proofs.Common.{◌≡◌, ℕ, ◌^◌, ◌<◌, List, None, Some, arith, sym, ◌∙◌, subst}
use Rattle.std.proofs.lemmas.List.FromFn.{fill_by_all}
use Rattle.cell_counters.specs.declared.account.Account.{Account}
use Rattle.cell_counters.specs.BoardModels.{BoardModel}
use Rattle.game_core.specs.declared.game.Row.{Row}
use Rattle.game_core.specs.Game.{Game, IsGraph}
use Rattle.game_core.specs.Solution.{row_of, IsReachSolution}
use Rattle.game_core.specs.Tally.{IsReachTally}
use Rattle.game_core.proofs.Right.{right_rows_are_the_solution}
use Rattle.board_rounds.specs.declared.solving.SolvedGame.{SolvedGame}
use Rattle.board_rounds.specs.Solving.{IsSolvedByRule}
use Rattle.board_rounds.specs.Rules.{IsAtEnd}
use Rattle.reach_avoid.specs.ReachBoards.{IsBoardOf}
use Rattle.reach_avoid.specs.Solved.{IsSolved}
use Rattle.reach_avoid.specs.inside.ReachRounds.{row_in, word_after, decoded_rows}
use Rattle.reach_avoid.specs.inside.ReachInvariant.{IsReachInvariant}
use Rattle.reach_avoid.proofs.Settled.{right, reckoned, cuts_count, offers_count, few_cuts, few_offers, rounds_count}

module _ (g : Game) (a : IsGraph g) where
  -- ranks are small
  pub low_ranks : (accounts : List Account) → IsAtEnd g.cells (IsReachInvariant g) accounts → (c : ℕ) (row : Row) → row_of (decoded_rows g accounts) c ≡ Some row → row.rank < 2 ^ 32
  low_ranks accounts end c row e =
      omega (arith, end.stood.reached.highest c row e)

  -- the game is solved
  pub solved : (board : BoardModel) → IsBoardOf g board → (s : SolvedGame) → IsSolvedByRule g.cells (IsReachInvariant g) (λ accounts c row. row ≡ row_in (word_after g accounts c)) board s → IsSolved g s
  solved board of_game s r =
      let accounts = s.root.accounts in
      let rank = s.tally.rounds in
      let rows = decoded_rows g accounts in
      let was = r.stood.reached in
      let answer : s.answer ≡ rows = fill_by_all (λ c. row_in (word_after g accounts c)) s.answer g.cells None r.told.one_each r.told.each in
      let solution = right_rows_are_the_solution g rows a.game (right g a rank accounts was) in
      let cuts = cuts_count g a rank accounts was in
      let offers = offers_count g a rank accounts was in
      let few = few_cuts g a rank accounts was in
      let few' = few_offers g a rank accounts was in
      let counts : IsReachTally g rows s.tally = record { cuts = omega arith; offers = omega arith; rounds = rounds_count g a rank accounts was r.stood.full } in
      record {
        solution = subst (IsReachSolution g) (sym answer) solution;
        tallied = subst (λ l. IsReachTally g l s.tally) (sym answer) counts;
        of_game = subst (IsBoardOf g) (sym r.on) of_game;
        at = r.at ∙ sym r.on;
        settled = r.settled;
        reckoned = (rows, solution, reckoned g a rank accounts was);
      }
