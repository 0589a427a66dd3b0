-- What stands with no cell on the list, and what a solved game is then.
use Rattle.std.proofs.Common.{◌≡◌, List, length, arith, sym, ◌∙◌, ap, subst}
use Rattle.cell_counters.specs.declared.account.Account.{Account}
use Rattle.cell_counters.specs.BoardModels.{BoardModel}
use Rattle.game_core.specs.Game.{Game, IsGraph}
use Rattle.game_core.specs.Tally.{IsKeepTally}
use Rattle.game_core.proofs.Keep.{stable_rows_are_the_keep_solution}
use Rattle.board_rounds.specs.declared.solving.SolvedGame.{SolvedGame}
use Rattle.board_rounds.specs.Crew.{offers_in}
use Rattle.board_rounds.specs.Solving.{IsSolvedByRule}
use Rattle.board_rounds.specs.Rules.{IsAtEnd}
use Rattle.safety_game.specs.KeepBoards.{IsBoardOf}
use Rattle.safety_game.specs.Kept.{IsKeepSolved}
use Rattle.safety_game.specs.inside.KeepRounds.{AreFewCuts, IsRowDecoded}
use Rattle.safety_game.specs.inside.KeepInvariant.{IsKeepInvariant}
use Rattle.safety_game.proofs.Falls.{gone_few}
use Rattle.safety_game.proofs.Settled.{settled, reckoned, cuts_count, few_cuts, all_fell, no_sooner}

module _ (g : Game) (a : IsGraph g) where
  -- no pair is cut too often
  pub few_each : (accounts : List Account) → IsAtEnd g.cells (IsKeepInvariant g) accounts → AreFewCuts g accounts
  few_each accounts end pair lt =
      omega (arith, gone_few g end.rounds pair)

  -- the game is solved
  pub solved : (board : BoardModel) → IsBoardOf g board → (k : SolvedGame) → IsSolvedByRule g.cells (IsKeepInvariant g) (IsRowDecoded g) board k → IsKeepSolved g k
  solved board of_game k r =
      let accounts = k.root.accounts in
      let d = k.tally.rounds in
      let rows = k.answer in
      let was = r.stood.falling in
      let solution = stable_rows_are_the_keep_solution g rows a.game (settled g a d accounts was rows r.told) in
      let cuts = cuts_count g a d accounts was rows r.told in
      let few = few_cuts g a d accounts was rows r.told in
      let no_offers : length (offers_in accounts) ≡ 0 = ap length was.no_offer in
      let counts : IsKeepTally g rows k.tally = record {
        cuts = omega arith;
        offers = omega arith;
        all_fell = all_fell g a d accounts was rows r.told;
        no_sooner = no_sooner g a d accounts was rows r.told r.stood.full;
      } in
      record {
        solution = solution;
        tallied = counts;
        of_game = subst (IsBoardOf g) (sym r.on) of_game;
        at = r.at ∙ sym r.on;
        settled = r.settled;
        reckoned = (rows, solution, reckoned g a d accounts was rows r.told);
      }
