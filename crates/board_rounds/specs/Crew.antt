-- The workers at a board, and all that their accounts hold together.
use Rattle.std.specs.Prelude.{◌≡◌, ℕ, ◌%◌, ◌^◌, ◌==◌, List, map, filter, length}
use Rattle.std.specs.List.{flat_map}
use Rattle.cell_counters.specs.declared.account.Cut.{Cut}
use Rattle.cell_counters.specs.declared.account.Offer.{Offer}
use Rattle.cell_counters.specs.declared.account.Log.{Log}
use Rattle.cell_counters.specs.declared.account.Account.{Account}
use Rattle.cell_counters.specs.BoardModels.{BoardModel, HandModel, fresh_hand}
use Rattle.frontier_pool.specs.declared.member.Member.{Member}
use Rattle.game_core.specs.declared.tally.Tally.{Tally}

-- all cuts in these accounts
abbrev pub cuts_in : List Account → List Cut
cuts_in accounts = flat_map (λ (a : Account). a.cuts) accounts

-- all offers in these accounts
abbrev pub offers_in : List Account → List Offer
offers_in accounts = flat_map (λ (a : Account). a.offers) accounts

-- the numbers of the counters that were cut
abbrev pub counters_of : List Cut → List ℕ
counters_of cuts = map (λ (c : Cut). c.counter) cuts

-- the counters of which a cut left v
abbrev pub cut_to : ℕ → List Cut → List ℕ
cut_to v cuts = counters_of (filter (λ (c : Cut). c.left == v) cuts)

-- the words on which an offer was first
abbrev pub claimed_words : List Offer → List ℕ
claimed_words offers = map (λ (o : Offer). o.word) (filter (λ (o : Offer). o.first) offers)

-- the cells that were logged
abbrev pub logged_cells : List Log → List ℕ
logged_cells logs = map (λ (l : Log). l.cell) logs

-- a tally has the cuts and the offers of these accounts, modulo 2^64
pub record IsTalliedBy (accounts : List Account) (tally : Tally) : Type 0 where
  pub cuts : tally.cuts ≡ length (cuts_in accounts) % 2 ^ 64
  pub offers : tally.offers ≡ length (offers_in accounts) % 2 ^ 64

-- a worker that has done nothing
abbrev pub IsFresh : BoardModel → Member HandModel → Type 0
IsFresh board m = m.hand ≡ fresh_hand board

-- the accounts of some members
abbrev pub accounts_of : List (Member HandModel) → List Account
accounts_of members = map (λ (m : Member HandModel). m.hand.account) members

-- the notes in the accounts of some members
abbrev pub notes_of : List (Member HandModel) → List ℕ
notes_of members = flat_map (λ (m : Member HandModel). m.hand.account.notes) members
