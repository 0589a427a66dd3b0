-- What the accounts of a round add to those before.
use Rattle.std.proofs.Common.{◌≡◌, List, [], ◌∷◌, ◌++◌, All, refl, ap₂}
use Rattle.std.proofs.lemmas.List.Elements.{All-head, All-tail, All-weaker}
use Rattle.board_rounds.specs.Crew.{cuts_in, offers_in, logged_cells}
use Rattle.cell_counters.specs.declared.account.Account.{Account}
use Rattle.cell_counters.specs.Accounts.{all_logs}
use Rattle.game_core.specs.Game.{Game}
use Rattle.safety_game.specs.inside.KeepRounds.{IsInStep, KeepsRule}
use Rattle.safety_game.proofs.InStep.{all_in_step}

module _ (g : Game) where
  pub none_offered : (more : List Account) → All (KeepsRule g) more → offers_in more ≡ []
  none_offered [] h = refl
  none_offered (a ∷ more) h = ap₂ ◌++◌ (All-head (KeepsRule g) a more h).no_offer (none_offered more (All-tail (KeepsRule g) a more h))

  pub round_in_step : (more : List Account) → All (KeepsRule g) more → IsInStep g (cuts_in more) (logged_cells (all_logs more))
  round_in_step more h = all_in_step g more (All-weaker (KeepsRule g) (λ (a : Account). IsInStep g a.cuts (logged_cells a.logs)) (λ a w. w.in_step) more h)
