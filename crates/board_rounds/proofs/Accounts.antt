-- What accounts hold together, said of one counter or word and of all.
use Rattle.std.proofs.Common.{◌≡◌, ℕ, ◌+◌, ◌==◌, List, [], ◌∷◌, ◌++◌, map, filter, length, get_or, reverse, All, IsPermutation, count_by, sum_by, refl, sym, ◌∙◌, ap, length-append}
use Rattle.std.specs.List.{flat_map}
use Rattle.std.proofs.lemmas.List.{map-append, length-map}
use Rattle.std.proofs.lemmas.List.Concat.{flat_map-append}
use Rattle.std.proofs.lemmas.List.Elements.{filter-append}
use Rattle.std.proofs.lemmas.List.Sorted.{IsPermutation-reverse, sum_by-IsPermutation}
use Rattle.std.proofs.lemmas.List.Sums.{length-filter}
use Rattle.cell_counters.specs.declared.account.Cut.{Cut}
use Rattle.cell_counters.specs.declared.account.Log.{Log}
use Rattle.cell_counters.specs.declared.account.Offer.{Offer}
use Rattle.cell_counters.specs.declared.account.Account.{Account}
use Rattle.cell_counters.specs.Accounts.{answers, all_answers, cut_count, offers_on, all_offers, first_count, all_logs}
use Rattle.cell_counters.specs.Laws.{times_answered}
use Rattle.cell_counters.specs.BoardModels.{HandModel}
use Rattle.frontier_pool.specs.declared.member.Member.{Member}
use Rattle.game_core.specs.Counts.{one_if, times}
use Rattle.board_rounds.specs.Crew.{accounts_of, notes_of, cuts_in, offers_in, logged_cells, counters_of, cut_to, claimed_words}
use Rattle.base.proofs.Counts.{sum_map, sum_alike}
use Rattle.board_rounds.proofs.Sums.{count_map, count_both, sum_flat}
use Rattle.base.proofs.Times.{same}

-- what these cuts left
abbrev lefts_of : List Cut → List ℕ
lefts_of cuts = map (λ (c : Cut). c.left) cuts

answers_are : (counter : ℕ) (accounts : List Account) → all_answers counter accounts ≡ lefts_of (filter (λ (c : Cut). c.counter == counter) (cuts_in accounts))
answers_are counter [] = refl
answers_are counter (a ∷ more) =
    ap (λ l. answers counter a ++ l) (answers_are counter more)
    ∙ sym (ap lefts_of (filter-append (λ (c : Cut). c.counter == counter) a.cuts (cuts_in more)) ∙ map-append (λ (c : Cut). c.left) (filter (λ (c : Cut). c.counter == counter) a.cuts) (filter (λ (c : Cut). c.counter == counter) (cuts_in more)))

pub offers_are : (word : ℕ) (accounts : List Account) → all_offers word accounts ≡ filter (λ (o : Offer). o.word == word) (offers_in accounts)
offers_are word [] = refl
offers_are word (a ∷ more) =
    ap (λ l. offers_on word a ++ l) (offers_are word more) ∙ sym (filter-append (λ (o : Offer). o.word == word) a.offers (offers_in more))

pub cuts_are : (counter : ℕ) (accounts : List Account) → cut_count counter accounts ≡ times counter (counters_of (cuts_in accounts))
cuts_are counter accounts =
    let cut = filter (λ (c : Cut). c.counter == counter) (cuts_in accounts) in
    ap length (answers_are counter accounts)
    ∙ (length-map cut (λ (c : Cut). c.left)
    ∙ (length-filter (λ (c : Cut). c.counter == counter) (cuts_in accounts) ∙ sym (count_map (λ n. n == counter) (λ (c : Cut). c.counter) (cuts_in accounts))))

-- the cuts that left a number, and the offers on a word that were first
pub cuts_to_are : (counter v : ℕ) (accounts : List Account) → times_answered counter v accounts ≡ times counter (cut_to v (cuts_in accounts))
cuts_to_are counter v accounts =
    let of_counter = λ (c : Cut). c.counter == counter in
    let left_it = λ (c : Cut). c.left == v in
    ap (count_by (λ answer. answer == v)) (answers_are counter accounts)
    ∙ (count_map (λ answer. answer == v) (λ (c : Cut). c.left) (filter of_counter (cuts_in accounts))
    ∙ (count_both left_it of_counter (cuts_in accounts) ∙ sym (count_map (λ n. n == counter) (λ (c : Cut). c.counter) (filter left_it (cuts_in accounts)))))

pub firsts_are : (word : ℕ) (accounts : List Account) → times word (claimed_words (offers_in accounts)) ≡ first_count (all_offers word accounts)
firsts_are word accounts =
    let of_word = λ (o : Offer). o.word == word in
    let first = λ (o : Offer). o.first in
    count_map (λ n. n == word) (λ (o : Offer). o.word) (filter first (offers_in accounts))
    ∙ (count_both of_word first (offers_in accounts) ∙ ap (count_by first) (sym (offers_are word accounts)))

cuts_in_parts : (counter : ℕ) (accounts : List Account) → times counter (counters_of (cuts_in accounts)) ≡ sum_by (λ (a : Account). times counter (counters_of a.cuts)) accounts
cuts_in_parts counter accounts =
    count_map (λ n. n == counter) (λ (c : Cut). c.counter) (cuts_in accounts)
    ∙ (sum_flat (λ (c : Cut). one_if (c.counter == counter)) (λ (a : Account). a.cuts) accounts
    ∙ sum_alike (λ (a : Account). count_by (λ (c : Cut). c.counter == counter) a.cuts) (λ (a : Account). times counter (counters_of a.cuts)) accounts
    (λ i d lt. sym (count_map (λ n. n == counter) (λ (c : Cut). c.counter) (get_or accounts i d).cuts)))

-- all that these accounts noted
abbrev pub notes_in : List Account → List ℕ
notes_in accounts = flat_map (λ (a : Account). a.notes) accounts

pub cuts_by_notes : (counter : ℕ) (f : ℕ → ℕ) (accounts : List Account) → All (λ (a : Account). times counter (counters_of a.cuts) ≡ sum_by f a.notes) accounts → cut_count counter accounts ≡ sum_by f (notes_in accounts)
cuts_by_notes counter f accounts each =
    cuts_are counter accounts
    ∙ (cuts_in_parts counter accounts
    ∙ (sum_alike (λ (a : Account). times counter (counters_of a.cuts)) (λ (a : Account). sum_by f a.notes) accounts each
    ∙ sym (sum_flat f (λ (a : Account). a.notes) accounts)))

pub notes_reversed : (members : List (Member HandModel)) → IsPermutation (notes_of members) (notes_in (reverse (accounts_of members)))
notes_reversed members =
    let more = reverse (accounts_of members) in
    same (notes_of members) (notes_in more) (λ n.
    sum_flat (λ x. one_if (x == n)) (λ (m : Member HandModel). m.hand.account.notes) members
    ∙ sym (sum_flat (λ x. one_if (x == n)) (λ (a : Account). a.notes) more
    ∙ (sum_by-IsPermutation (λ (a : Account). times n a.notes) (accounts_of members) more (IsPermutation-reverse (accounts_of members))
    ∙ sum_map (λ (a : Account). times n a.notes) (λ (m : Member HandModel). m.hand.account) members)))

-- all of two lists of accounts
pub cuts_in-append : (xs ys : List Account) → cuts_in (xs ++ ys) ≡ cuts_in xs ++ cuts_in ys
cuts_in-append xs ys = flat_map-append (λ (a : Account). a.cuts) xs ys

pub offers_in-append : (xs ys : List Account) → offers_in (xs ++ ys) ≡ offers_in xs ++ offers_in ys
offers_in-append xs ys = flat_map-append (λ (a : Account). a.offers) xs ys

pub all_logs-append : (xs ys : List Account) → all_logs (xs ++ ys) ≡ all_logs xs ++ all_logs ys
all_logs-append xs ys = flat_map-append (λ (a : Account). a.logs) xs ys

pub logged_cells-append : (xs ys : List Account) → logged_cells (all_logs (xs ++ ys)) ≡ logged_cells (all_logs xs) ++ logged_cells (all_logs ys)
logged_cells-append xs ys = ap logged_cells (all_logs-append xs ys) ∙ map-append (λ (l : Log). l.cell) (all_logs xs) (all_logs ys)

pub cut_count-append : (counter : ℕ) (xs ys : List Account) → cut_count counter (xs ++ ys) ≡ cut_count counter xs + cut_count counter ys
cut_count-append counter xs ys = ap length (flat_map-append (answers counter) xs ys) ∙ length-append (all_answers counter xs) (all_answers counter ys)
