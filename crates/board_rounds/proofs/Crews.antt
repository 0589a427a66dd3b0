-- The workers of a round together.
use Rattle.std.proofs.Common.{◌≡◌, ℕ, ◌+◌, ◌%◌, ◌^◌, reverse, append_assoc, length-append, List, [], ◌∷◌, ◌++◌, map, length, get_or, set, All, IsPermutation, arith, refl, sym, ◌∙◌, ap, ap₂, subst}
use Rattle.std.specs.List.{concat, range_with_len}
use Rattle.std.proofs.lemmas.List.{length-map, map_push, reverse-append, append-nil}
use Rattle.std.proofs.lemmas.List.Elements.{All-head, All-tail}
use Rattle.std.proofs.lemmas.List.Sorted.{IsPermutation-refl}
use Rattle.cell_counters.specs.BoardModels.{BoardModel, HandModel}
use Rattle.cell_counters.specs.declared.account.Account.{Account}
use Rattle.frontier_pool.specs.declared.member.Member.{Member}
use Rattle.frontier_pool.specs.Sweeps.{followed, Sweeps}
use Rattle.game_core.specs.declared.tally.Tally.{Tally}
use Rattle.board_rounds.specs.Crew.{IsFresh, IsTalliedBy, accounts_of, notes_of, cuts_in, offers_in}
use Rattle.board_rounds.specs.inside.WorkerSteps.{IsCounted}
use Rattle.board_rounds.proofs.Accounts.{cuts_in-append, offers_in-append}

-- one member does all
pub one_sweeps : {H : Type 0} (done : H → List ℕ) (members : List (Member H)) (first d : Member H) (count items : ℕ) → length members ≡ 1 → count ≡ items → done first.hand ≡ done (get_or members 0 d).hand ++ range_with_len 0 count
    → Sweeps (map (λ (m : Member H). done m.hand) members) (map (λ (m : Member H). done m.hand) (set members 0 first)) items
one_sweeps done [] first d count items one same did = absurd (omega arith)
one_sweeps done (m ∷ n ∷ more) first d count items one same did = absurd (omega arith)
one_sweeps done (m ∷ []) first d count items one same did =
    let range = range_with_len 0 items in
    record {
      claim_lists = range ∷ [];
      each = refl;
      grown = ap (λ (l : List ℕ). l ∷ []) (did ∙ ap (λ n. done m.hand ++ range_with_len 0 n) same);
      once = subst (IsPermutation range) (sym (append-nil range)) (IsPermutation-refl range);
    }

abbrev pub notes_each : List (Member HandModel) → List (List ℕ)
notes_each members = map (λ (m : Member HandModel). m.hand.account.notes) members

pub notes_joined : (members : List (Member HandModel)) → concat (notes_each members) ≡ notes_of members
notes_joined [] = refl
notes_joined (m ∷ members) = ap (λ l. m.hand.account.notes ++ l) (notes_joined members)

-- new workers have noted nothing: what they note in a sweep is their part of it
parts_alone : (board : BoardModel) (before : List (Member HandModel)) (claim_lists : List (List ℕ)) → length claim_lists ≡ length before → All (IsFresh board) before → followed (notes_each before) claim_lists ≡ claim_lists
parts_alone board [] [] each fresh = refl
parts_alone board [] (p ∷ claim_lists) each fresh = absurd (omega arith)
parts_alone board (m ∷ before) [] each fresh = absurd (omega arith)
parts_alone board (m ∷ before) (p ∷ claim_lists) each fresh =
    ap₂ (λ (h : HandModel) (l : List (List ℕ)). (h.account.notes ++ p) ∷ l) (All-head (IsFresh board) m before fresh) (parts_alone board before claim_lists (omega arith) (All-tail (IsFresh board) m before fresh))

-- so together they note all its items, each once
pub notes_swept : (board : BoardModel) (before after : List (Member HandModel)) (items : ℕ) → All (IsFresh board) before → Sweeps (notes_each before) (notes_each after) items → IsPermutation (range_with_len 0 items) (notes_of after)
notes_swept board before after items fresh swept =
    let each : length swept.claim_lists ≡ length before = swept.each ∙ length-map before (λ (m : Member HandModel). m.hand.account.notes) in
    subst (IsPermutation (range_with_len 0 items)) (sym (ap concat (swept.grown ∙ parts_alone board before swept.claim_lists each fresh)) ∙ notes_joined after) swept.once

-- taking hands in, the last one first
abbrev pub IsOfBoard : BoardModel → Member HandModel → Type 0
IsOfBoard board m = m.hand.board ≡ board

pub taken_step : (accounts : List Account) (xs ys : List (Member HandModel)) (m : Member HandModel) → xs ≡ ys ++ m ∷ [] → (accounts ++ m.hand.account ∷ []) ++ reverse (accounts_of ys) ≡ accounts ++ reverse (accounts_of xs)
taken_step accounts xs ys m e =
    let all : accounts_of xs ≡ accounts_of ys ++ m.hand.account ∷ [] = ap accounts_of e ∙ map_push (λ (m : Member HandModel). m.hand.account) ys m in
    append_assoc accounts (m.hand.account ∷ []) (reverse (accounts_of ys))
    ∙ ap (λ l. accounts ++ l) (sym (reverse-append (accounts_of ys) (m.hand.account ∷ [])) ∙ ap reverse (sym all))

pub tally_step : (accounts : List Account) (a : Account) (cuts offers : ℕ) (was now : Tally) → IsCounted a cuts offers → IsTalliedBy accounts was → now.cuts ≡ (was.cuts + cuts) % 2 ^ 64 → now.offers ≡ (was.offers + offers) % 2 ^ 64 → IsTalliedBy (accounts ++ a ∷ []) now
tally_step accounts a cuts offers was now counted h new_cuts new_offers =
    let all_cuts : length (cuts_in (accounts ++ a ∷ [])) ≡ length (cuts_in accounts) + length a.cuts =
    ap length (cuts_in-append accounts (a ∷ []) ∙ ap (λ l. cuts_in accounts ++ l) (append-nil a.cuts)) ∙ length-append (cuts_in accounts) a.cuts in
    let all_offers : length (offers_in (accounts ++ a ∷ [])) ≡ length (offers_in accounts) + length a.offers =
    ap length (offers_in-append accounts (a ∷ []) ∙ ap (λ l. offers_in accounts ++ l) (append-nil a.offers)) ∙ length-append (offers_in accounts) a.offers in
    record { cuts = omega arith; offers = omega arith }
