-- Offers within a graph's limits.
use Rattle.std.proofs.Common.{◌≡◌, ℕ, ◌+◌, ◌*◌, ◌/◌, ◌%◌, ◌^◌, ◌<◌, ◌≤◌, ◌==◌, List, map, length, get_or, All, arith, sym, ◌∙◌, ap, subst}
use Rattle.std.proofs.lemmas.List.{get_or-map, length-map}
use Rattle.std.proofs.lemmas.List.Elements.{All-map, All-filter, All-weaker}
use Rattle.cell_counters.specs.declared.account.TheConstants.{NONE}
use Rattle.cell_counters.specs.declared.account.Offer.{Offer}
use Rattle.cell_counters.specs.declared.account.Account.{Account}
use Rattle.cell_counters.specs.Accounts.{all_offers, values}
use Rattle.game_core.specs.Game.{Game, IsGraph, pairs_of}
use Rattle.board_rounds.specs.Crew.{offers_in}
use Rattle.board_rounds.proofs.Accounts.{offers_are}
use Rattle.board_rounds.proofs.Graphs.{cell_below}
use Rattle.reach_avoid.specs.ReachReckoned.{word_and_value, due_offer}
use Rattle.reach_avoid.specs.inside.ReachRounds.{IsDueOffer}

-- an offer is what some pair offers at a rank
pub record IsDueOfferOf (g : Game) (rank : ℕ) (o : Offer) : Type 0 where
  pub pair : ℕ
  pub below : pair < pairs_of g
  pub word : o.word ≡ pair / g.inputs
  pub value : o.value ≡ 1 + rank * 4096 + pair % g.inputs

module _ (g : Game) (a : IsGraph g) where
  pub input_of_pair : (pair : ℕ) → pair % g.inputs < g.inputs
  input_of_pair pair = let some' = a.some_input in omega arith

  -- what pairs offer at a rank are offers, one after another
  pub due_offers_of : (rank : ℕ) (offers : List Offer) (pairs : List ℕ) → All (λ pair. pair < pairs_of g) pairs → map word_and_value offers ≡ map (due_offer g rank) pairs → All (IsDueOfferOf g rank) offers
  due_offers_of rank offers pairs below same i d lt =
      let o = get_or offers i d in
      let many : length offers ≡ length pairs = sym (length-map offers word_and_value) ∙ (ap length same ∙ length-map pairs (due_offer g rank)) in
      let at : word_and_value o ≡ due_offer g rank (get_or pairs i 0) =
      sym (get_or-map word_and_value offers i d (0, 0) lt) ∙ (ap (λ l. get_or l i (0, 0)) same ∙ get_or-map (due_offer g rank) pairs i 0 (0, 0) (omega arith)) in
      record { pair = get_or pairs i 0; below = below i 0 (omega arith); word = ap (λ p. p.0) at; value = ap (λ p. p.1) at }

  pub due_valued : (rank : ℕ) → rank < 2 ^ 32 → (o : Offer) → IsDueOfferOf g rank o → IsDueOffer g o
  due_valued rank small o b =
      let word = b.word in
      let cell = cell_below g a b.pair b.below in
      record { word = omega arith; some = omega arith; less = omega arith }

  -- the values of a rank lie together
  pub values_of_rank : (rank c : ℕ) (accounts : List Account) → All (IsDueOfferOf g rank) (offers_in accounts) → All (λ v. (1 + rank * 4096 ≤ v) × (v < 1 + rank * 4096 + 4096)) (values (all_offers c accounts))
  values_of_rank rank c accounts h =
      All-map (λ v. (1 + rank * 4096 ≤ v) × (v < 1 + rank * 4096 + 4096)) (λ (o : Offer). o.value) (all_offers c accounts)
      (subst (λ l. All (λ (o : Offer). (1 + rank * 4096 ≤ o.value) × (o.value < 1 + rank * 4096 + 4096)) l) (sym (offers_are c accounts))
      (All-filter (λ (o : Offer). o.word == c) (λ (o : Offer). (1 + rank * 4096 ≤ o.value) × (o.value < 1 + rank * 4096 + 4096)) (offers_in accounts)
      (All-weaker (IsDueOfferOf g rank) (λ (o : Offer). (1 + rank * 4096 ≤ o.value) × (o.value < 1 + rank * 4096 + 4096)) (λ o b. in_range o b) (offers_in accounts) h)))
    where
      in_range : (o : Offer) → IsDueOfferOf g rank o → (1 + rank * 4096 ≤ o.value) × (o.value < 1 + rank * 4096 + 4096)
      in_range o b =
          (omega arith, omega arith)

pub values_valued : (g : Game) (c : ℕ) (accounts : List Account) → All (IsDueOffer g) (offers_in accounts) → All (λ v. (1 ≤ v) × (v < NONE)) (values (all_offers c accounts))
values_valued g c accounts h =
    All-map (λ v. (1 ≤ v) × (v < NONE)) (λ (o : Offer). o.value) (all_offers c accounts)
    (subst (λ l. All (λ (o : Offer). (1 ≤ o.value) × (o.value < NONE)) l) (sym (offers_are c accounts))
    (All-filter (λ (o : Offer). o.word == c) (λ (o : Offer). (1 ≤ o.value) × (o.value < NONE)) (offers_in accounts)
    (All-weaker (IsDueOffer g) (λ (o : Offer). (1 ≤ o.value) × (o.value < NONE)) (λ o b. (let s = b.some in omega arith, b.less)) (offers_in accounts) h)))
