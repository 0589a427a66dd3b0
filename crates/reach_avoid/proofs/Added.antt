-- What the accounts of a round add to those before.
use Rattle.std.proofs.Common.{◌≡◌, ℕ, suc, ◌<◌, ◌==◌, List, [], ◌∷◌, ◌++◌, map, filter, All, refl, sym, ◌∙◌, ap, ap₂}
use Rattle.std.proofs.lemmas.List.{map-append}
use Rattle.std.proofs.lemmas.List.Elements.{All-nil, All-append, All-head, All-tail, filter-append}
use Rattle.cell_counters.specs.declared.account.Cut.{Cut}
use Rattle.cell_counters.specs.declared.account.Offer.{Offer}
use Rattle.cell_counters.specs.declared.account.Log.{Log}
use Rattle.cell_counters.specs.declared.account.Account.{Account}
use Rattle.cell_counters.specs.Accounts.{all_logs}
use Rattle.game_core.specs.Game.{Game, pairs_of}
use Rattle.board_rounds.specs.Crew.{cuts_in, offers_in, logged_cells, claimed_words, counters_of}
use Rattle.reach_avoid.specs.ReachReckoned.{word_and_value, due_offer}
use Rattle.reach_avoid.specs.inside.ReachRounds.{last_cuts, KeepsRule}

pub last_cuts-append : (xs ys : List Cut) → last_cuts (xs ++ ys) ≡ last_cuts xs ++ last_cuts ys
last_cuts-append xs ys =
    let last = λ (c : Cut). c.left == 0 in
    ap counters_of (filter-append last xs ys) ∙ map-append (λ (c : Cut). c.counter) (filter last xs) (filter last ys)

pub claimed-append : (xs ys : List Offer) → claimed_words (xs ++ ys) ≡ claimed_words xs ++ claimed_words ys
claimed-append xs ys =
    let first = λ (o : Offer). o.first in
    ap (map (λ (o : Offer). o.word)) (filter-append first xs ys) ∙ map-append (λ (o : Offer). o.word) (filter first xs) (filter first ys)

module _ (g : Game) (rank : ℕ) where
  -- a pair offers with the cut that leaves nothing
  pub offers_added : (more : List Account) → All (KeepsRule g rank) more → map word_and_value (offers_in more) ≡ map (due_offer g (suc rank)) (last_cuts (cuts_in more))
  offers_added [] h = refl
  offers_added (a ∷ more) h =
      map-append word_and_value a.offers (offers_in more)
      ∙ (ap₂ ◌++◌ (All-head (KeepsRule g rank) a more h).offers (offers_added more (All-tail (KeepsRule g rank) a more h))
      ∙ sym (ap (map (due_offer g (suc rank))) (last_cuts-append a.cuts (cuts_in more)) ∙ map-append (due_offer g (suc rank)) (last_cuts a.cuts) (last_cuts (cuts_in more))))

  -- the cells that are logged are those whose offers are first
  pub logs_added : (more : List Account) → All (KeepsRule g rank) more → logged_cells (all_logs more) ≡ claimed_words (offers_in more)
  logs_added [] h = refl
  logs_added (a ∷ more) h =
      map-append (λ (l : Log). l.cell) a.logs (all_logs more)
      ∙ (ap₂ ◌++◌ (All-head (KeepsRule g rank) a more h).logs (logs_added more (All-tail (KeepsRule g rank) a more h))
      ∙ sym (claimed-append a.offers (offers_in more)))

  pub cuts_stay_below : (more : List Account) → All (KeepsRule g rank) more → All (λ (c : Cut). c.counter < pairs_of g) (cuts_in more)
  cuts_stay_below [] h = All-nil (λ (c : Cut). c.counter < pairs_of g)
  cuts_stay_below (a ∷ more) h =
      All-append (λ (c : Cut). c.counter < pairs_of g) a.cuts (cuts_in more)
      (All-head (KeepsRule g rank) a more h).no_other_cut (cuts_stay_below more (All-tail (KeepsRule g rank) a more h))
