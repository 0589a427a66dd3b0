-- Each step keeps the rule.
use Rattle.std.proofs.Common.{◌≡◌, ◌≢◌, ℕ, ◌+◌, ◌-◌, ◌%◌, ◌^◌, ◌<◌, ◌≤◌, List, [], ◌∷◌, length, set, min, ◌==◌, Some, None, refl, sym, ap, ◌∙◌, subst, arith}
use Rattle.std.specs.Prelude.{slice_index}
use mathlib.Core.Option.{none, some}
use mathlib.Core.Logic.{dite, inr, ⊎_elim}
use native.Mathlib.Decide.{ℕ_discrete}
use lib.ListN.{get_elem?}
use Rattle.std.proofs.lemmas.List.{get_or-set_same, get_or-set_other, length-set, set-get_or}
use Rattle.std.proofs.lemmas.List.Elements.{All-set}
use Rattle.atomic_table.specs.Table.{State, Allows, step, keeps}
use Rattle.cell_counters.specs.declared.account.TheConstants.{NONE}
use Rattle.cell_counters.specs.declared.account.Account.{Account}
use Rattle.cell_counters.specs.declared.rule.Setup.{Setup}
use Rattle.cell_counters.specs.declared.rule.View.{View}
use Rattle.cell_counters.specs.Accounts.{IsLawfulCounter, answers, offers_on}
use Rattle.cell_counters.specs.BoardModels.{with_cut, with_offer, with_note, with_log}
use Rattle.cell_counters.specs.inside.BoardProtocol.{Keeps, ExplainsCounters, ExplainsLeast, KeepsLog, Knows, Stands, accounts_of, account_of, tail_of, slot_of, empty_view, with_account, view_after_draw, view_after_store, Seated, Cuts, Offers, Notes, Draws, Stores}
use Rattle.cell_counters.proofs.Lists.{All-at}
use Rattle.cell_counters.proofs.Logs.{log_stays, log_draws, log_stores}
use Rattle.cell_counters.proofs.Parts.{Replaced, replaced, made_of-set, length-replaced}
use Rattle.cell_counters.proofs.Cuts.{counter_stays, counter_cut}
use Rattle.cell_counters.proofs.Offers.{word_stays, word_offered, found_free}
use Rattle.cell_counters.proofs.Entries.{answers-cut, answers-other_cut, offers_on-offer, offers_on-other_offer}

-- a view with an account knows how the board began
pub hand_knows : (n : Setup) (s : State (Unit {0}) View) (id : ℕ) (v : View) (a : Account) → Keeps n s → get_elem? s.views id ≡ some v → v.accounts ≡ a ∷ [] → v.began ≡ n
hand_knows n s id v a h at one = ⊎_elim (λ (e : v ≡ empty_view). absurd (cc (ap (λ (u : View). u.accounts) e, one))) (λ (e : v.began ≡ n). e) (All-at (Knows n) s.views id v at h.known)

-- the rule after a step of a hand, whose view v became w and its account a became b
keeps_after : (n : Setup) (s : State (Unit {0}) View) (i x id : ℕ) (v w : View) (a b : Account) → Keeps n s → get_elem? s.views id ≡ some v → v.accounts ≡ a ∷ [] → w.accounts ≡ b ∷ [] → w.made ≡ v.made → w.began ≡ v.began
    → (Replaced (accounts_of s.views) (accounts_of (set s.views id w)) a b → ExplainsCounters n.starts (set s.words i x) (accounts_of (set s.views id w)))
    → (Replaced (accounts_of s.views) (accounts_of (set s.views id w)) a b → ExplainsLeast n.starts n.least (set s.words i x) (accounts_of (set s.views id w)))
    → KeepsLog n (set s.words i x) (set s.views id w)
    → Keeps n (record { words = set s.words i x; homes = s.homes; views = set s.views id w })
keeps_after n s i x id v w a b h at one other made began cuts offers log =
    let r = replaced s.views id v w a b at one other in
    record {
      width = length-set s.words i x ∙ h.width;
      made = made_of-set s.views id v w at made ∙ h.made ∙ sym (length-replaced (accounts_of s.views) (accounts_of (set s.views id w)) a b r);
      known = All-set (Knows n) s.views id w (inr (began ∙ hand_knows n s id v a h at one)) h.known;
      cuts = cuts r;
      offers = offers r;
      log = log;
    }

-- a step that adds no cut
counters_stay : (starts words : List ℕ) (xs ys : List Account) (a b : Account) → Replaced xs ys a b → ((c : ℕ) → answers c b ≡ answers c a) → ExplainsCounters starts words xs → ExplainsCounters starts words ys
counters_stay starts words xs ys a b r same h c lt = counter_stays xs ys a b c (slice_index starts c) (slice_index words c) r (same c) (h c lt)

-- a step that adds no offer
least_stay : (starts least words : List ℕ) (xs ys : List Account) (a b : Account) → Replaced xs ys a b → ((w : ℕ) → offers_on w b ≡ offers_on w a) → ExplainsLeast starts least words xs → ExplainsLeast starts least words ys
least_stay starts least words xs ys a b r same h w lt = word_stays xs ys a b w (slice_index least w) (slice_index words (length starts + w)) r (same w) (h w lt)

-- the words of the counters alone count for the counters, and those of the minima for the minima
counters_words : (starts words others : List ℕ) (xs : List Account) → ((k : ℕ) → k < length starts → slice_index others k ≡ slice_index words k) → ExplainsCounters starts words xs → ExplainsCounters starts others xs
counters_words starts words others xs same h c lt = subst (IsLawfulCounter xs c (slice_index starts c)) (sym (same c lt)) (h c lt)

least_words : (starts least words others : List ℕ) (xs : List Account) → ((k : ℕ) → k < length least → slice_index others (length starts + k) ≡ slice_index words (length starts + k)) → ExplainsLeast starts least words xs → ExplainsLeast starts least others xs
least_words starts least words others xs same h w lt = subst (Stands xs w (slice_index least w)) (sym (same w lt)) (h w lt)

cut_counters : (starts words : List ℕ) (xs ys : List Account) (a : Account) (counter : ℕ) → let x = (slice_index words counter + (2 ^ 64 - 1)) % 2 ^ 64 in
    counter < length words → Replaced xs ys a (with_cut a counter x) → ExplainsCounters starts words xs → ExplainsCounters starts (set words counter x) ys
cut_counters starts words xs ys a counter there r h c lt =
    let x = (slice_index words counter + (2 ^ 64 - 1)) % 2 ^ 64 in
    dite (ℕ_discrete c counter)
    (λ (here : c ≡ counter).
    subst (λ k. IsLawfulCounter ys k (slice_index starts k) (slice_index (set words counter x) k)) (sym here)
    (subst (IsLawfulCounter ys counter (slice_index starts counter)) (sym (get_or-set_same words counter x 0 there))
    (counter_cut xs ys a (with_cut a counter x) counter (slice_index starts counter) (slice_index words counter) r (answers-cut a counter x) (h counter (subst (λ k. k < length starts) here lt)))))
    (λ (else : c ≢ counter).
    subst (IsLawfulCounter ys c (slice_index starts c)) (sym (get_or-set_other words counter c x 0 else))
    (counter_stays xs ys a (with_cut a counter x) c (slice_index starts c) (slice_index words c) r (answers-other_cut a counter c x (λ e. else (sym e))) (h c lt)))

pub cut_allowed : (n : Setup) (slot_count id counter : ℕ) (me : Seated) → me.0.accounts ≡ account_of me.0 ∷ [] → counter < length n.starts
    → Allows (Keeps n) slot_count id me counter (λ m. (m + (2 ^ 64 - 1)) % 2 ^ 64) (Cuts (step slot_count counter 1 0 none) me)
cut_allowed n slot_count id counter me one there s h home at small =
    let x = (slice_index s.words counter + (2 ^ 64 - 1)) % 2 ^ 64 in
    let a = account_of me.0 in
    let b = with_cut a counter x in
    let w = with_account me.0 b in
    let ys = accounts_of (set s.views id w) in (
      w,
      keeps,
      tt,
      keeps_after n s counter x id me.0 w a b h at one refl refl refl
          (λ r. cut_counters n.starts s.words (accounts_of s.views) ys a counter (let width = h.width in omega arith) r h.cuts)
          (λ r. least_words n.starts n.least s.words (set s.words counter x) ys (λ k lt. get_or-set_other s.words counter (length n.starts + k) x 0 (λ e. absurd (omega arith))) (least_stay n.starts n.least s.words (accounts_of s.views) ys a b r (λ w. refl) h.offers))
          (log_stays n s.words (set s.words counter x) s.views id me.0 w a b at one refl refl refl (λ k past. get_or-set_other s.words counter k x 0 (λ e. absurd (omega arith))) h.log),
      refl,
    )

-- the words after a load
loaded : (words : List ℕ) (i : ℕ) → set words i (slice_index words i) ≡ words
loaded words i = set-get_or words i 0

pub note_allowed : (n : Setup) (slot_count id item : ℕ) (me : Seated) → me.0.accounts ≡ account_of me.0 ∷ []
    → Allows (Keeps n) slot_count id me 0 (λ m. m) (Notes item (step slot_count 0 0 0 none) me)
note_allowed n slot_count id item me one s h home at small =
    let a = account_of me.0 in
    let b = with_note a item in
    let w = with_account me.0 b in
    let ys = accounts_of (set s.views id w) in (
      w,
      keeps,
      tt,
      keeps_after n s 0 (slice_index s.words 0) id me.0 w a b h at one refl refl refl
          (λ r. subst (λ words. ExplainsCounters n.starts words ys) (sym (loaded s.words 0)) (counters_stay n.starts s.words (accounts_of s.views) ys a b r (λ c. refl) h.cuts))
          (λ r. subst (λ words. ExplainsLeast n.starts n.least words ys) (sym (loaded s.words 0)) (least_stay n.starts n.least s.words (accounts_of s.views) ys a b r (λ c. refl) h.offers))
          (log_stays n s.words (set s.words 0 (slice_index s.words 0)) s.views id me.0 w a b at one refl refl refl (λ k past. ap (λ words. slice_index words k) (loaded s.words 0)) h.log),
      refl,
    )

offer_least : (starts least words : List ℕ) (xs ys : List Account) (a : Account) (at word value : ℕ) → at ≡ length starts + word → at < length words → value < NONE → Replaced xs ys a (with_offer a word value (slice_index words at == NONE)) → ExplainsLeast starts least words xs
    → ExplainsLeast starts least (set words at (min (slice_index words at) value)) ys
offer_least starts least words xs ys a at word value is there small r h w lt =
    let found = slice_index words at in
    let b = with_offer a word value (found == NONE) in
    dite (ℕ_discrete w word)
    (λ (here : w ≡ word).
    let same : length starts + w ≡ at = omega arith in
    let was : Stands xs word (slice_index least word) found = subst (λ k. Stands xs k (slice_index least k) found) here (subst (λ k. Stands xs w (slice_index least w) (slice_index words k)) same (h w lt)) in
    subst (λ k. Stands ys w (slice_index least w) (slice_index (set words at (min found value)) k)) (sym same)
    (subst (Stands ys w (slice_index least w)) (sym (get_or-set_same words at (min found value) 0 there))
    (subst (λ k. Stands ys k (slice_index least k) (min found value)) (sym here)
    (word_offered xs ys a b word (slice_index least word) found value r (offers_on-offer a word value (found == NONE)) small was))))
    (λ (else : w ≢ word).
    subst (Stands ys w (slice_index least w)) (sym (get_or-set_other words at (length starts + w) (min found value) 0 (λ e. else (omega arith))))
    (word_stays xs ys a b w (slice_index least w) (slice_index words (length starts + w)) r (offers_on-other_offer a word w value (found == NONE) (λ e. else (sym e))) (h w lt)))

pub offer_allowed : (n : Setup) (slot_count id at value : ℕ) (me : Seated) → me.0.accounts ≡ account_of me.0 ∷ [] → length n.starts ≤ at → at < tail_of n → value < NONE
    → Allows (Keeps n) slot_count id me at (λ m. min m value) (Offers (step slot_count at value 0 none) me)
offer_allowed n slot_count id at value me one past there small s h home seat full =
    let began : me.0.began ≡ n = hand_knows n s id me.0 (account_of me.0) h seat one in
    let word = at - length me.0.began.starts in
    let is : at ≡ length n.starts + word = omega (arith, ap (λ (m : Setup). length m.starts) began) in
    let found = slice_index s.words at in
    let a = account_of me.0 in
    let b = with_offer a word value (found == NONE) in
    let w = with_account me.0 b in
    let xs = accounts_of s.views in
    let ys = accounts_of (set s.views id w) in
    let was : Stands xs word (slice_index n.least word) found = subst (λ k. Stands xs word (slice_index n.least word) (slice_index s.words k)) (sym is) (h.offers word (omega arith)) in (
      w,
      keeps,
      tt,
      keeps_after n s at (min found value) id me.0 w a b h seat one refl refl refl
          (λ r. counters_words n.starts s.words (set s.words at (min found value)) ys (λ k lt. get_or-set_other s.words at k (min found value) 0 (λ e. absurd (omega arith))) (counters_stay n.starts s.words xs ys a b r (λ c. refl) h.cuts))
          (λ r. offer_least n.starts n.least s.words xs ys a at word value is (let width = h.width in omega arith) small r h.offers)
          (log_stays n s.words (set s.words at (min found value)) s.views id me.0 w a b seat one refl refl refl (λ k after. get_or-set_other s.words at k (min found value) 0 (λ e. absurd (omega arith))) h.log),
      (
        refl,
        λ free.
            let told = found_free xs ys a b word (slice_index n.least word) found (replaced s.views id me.0 w a b seat one refl) was free in
            (ap (λ (m : Setup). slice_index m.least word) began ∙ told.0, told.1),
      ),
    )

pub draw_allowed : (n : Setup) (slot_count id at cell : ℕ) (me : Seated) → me.0.accounts ≡ account_of me.0 ∷ [] → me.0.awaits ≡ None → at ≡ tail_of n
    → Allows (Keeps n) slot_count id me at (λ m. (m + 1) % 2 ^ 64) (Draws cell (step slot_count at 1 0 none) me)
draw_allowed n slot_count id at cell me one idle is s h home seat full =
    let began : me.0.began ≡ n = hand_knows n s id me.0 (account_of me.0) h seat one in
    let now = slice_index s.words at in
    let x = (now + 1) % 2 ^ 64 in
    let a = account_of me.0 in
    let b = with_log a cell now in
    let w = view_after_draw me.0 cell now in
    let ys = accounts_of (set s.views id w) in (
      w,
      keeps,
      tt,
      keeps_after n s at x id me.0 w a b h seat one refl refl refl
          (λ r. counters_words n.starts s.words (set s.words at x) ys (λ k lt. get_or-set_other s.words at k x 0 (λ e. absurd (omega arith))) (counters_stay n.starts s.words (accounts_of s.views) ys a b r (λ c. refl) h.cuts))
          (λ r. least_words n.starts n.least s.words (set s.words at x) ys (λ k lt. get_or-set_other s.words at (length n.starts + k) x 0 (λ e. absurd (omega arith))) (least_stay n.starts n.least s.words (accounts_of s.views) ys a b r (λ c. refl) h.offers))
          (subst (λ i. KeepsLog n (set s.words i ((slice_index s.words i + 1) % 2 ^ 64)) (set s.views id (view_after_draw me.0 cell (slice_index s.words i)))) (sym is)
          (log_draws n s.words s.views id cell me.0 seat one idle began (let width = h.width in omega arith) h.log)),
      refl,
    )

pub store_allowed : (n : Setup) (slot_count id at slot cell : ℕ) (me : Seated) (a : Account) → me.0.accounts ≡ with_log a cell slot ∷ [] → me.0.awaits ≡ Some slot → slot < n.slots → cell < 2 ^ 32 → at ≡ slot_of n slot
    → Allows (Keeps n) slot_count id me at (λ m. cell) (λ m. Stores (step slot_count at cell 0 none) me cell)
store_allowed n slot_count id at slot cell me a one awaits below small is s h home seat full =
    let w = view_after_store me.0 in
    let b = with_log a cell slot in
    let ys = accounts_of (set s.views id w) in (
      w,
      keeps,
      tt,
      keeps_after n s at cell id me.0 w b b h seat one one refl refl
          (λ r. counters_words n.starts s.words (set s.words at cell) ys (λ k lt. get_or-set_other s.words at k cell 0 (λ e. absurd (omega arith))) (counters_stay n.starts s.words (accounts_of s.views) ys b b r (λ c. refl) h.cuts))
          (λ r. least_words n.starts n.least s.words (set s.words at cell) ys (λ k lt. get_or-set_other s.words at (length n.starts + k) cell 0 (λ e. absurd (omega arith))) (least_stay n.starts n.least s.words (accounts_of s.views) ys b b r (λ c. refl) h.offers))
          (subst (λ i. KeepsLog n (set s.words i cell) (set s.views id w)) (sym is)
          (log_stores n s.words s.views id cell slot me.0 a seat one awaits below small (let width = h.width in omega arith) h.log)),
      refl,
    )
