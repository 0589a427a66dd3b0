-- The steps of the root, and the rule of a new board.
use Rattle.std.proofs.Common.{◌≡◌, ◌≢◌, ℕ, zero, suc, ◌+◌, ◌-◌, ◌^◌, ◌<◌, List, [], ◌∷◌, ◌++◌, length, set, take, drop, replicate, None, refl, sym, ap, ◌∙◌, subst, arith, All, IsPermutation, append_assoc, length-append}
use Rattle.std.specs.Prelude.{slice_index}
use mathlib.Core.Logic.{inl, inr}
use mathlib.Core.Option.{none, some, some-ne-none, some-injective}
use lib.ListN.{get_elem?}
use Rattle.std.proofs.lemmas.List.{set-get_or, append-nil, length-take-le, length-drop, length_push, length-replicate, get_or-take, get_or-drop, get_or-replicate, get_or_append_left, get_or-append-add}
use Rattle.std.proofs.lemmas.List.Concat.{flat_map-append}
use Rattle.std.proofs.lemmas.List.Elements.{All-nil, All-cons, All-set, All-push, All-weaker}
use Rattle.std.proofs.lemmas.List.Sorted.{All-permutation, length_permutation}
use Rattle.atomic_table.specs.Table.{State, Allows, Splits, Joins, step, keeps, opening}
use Rattle.atomic_table.proofs.Lists.{set_again}
use Rattle.atomic_table.specs.Seated.{TableId}
use Rattle.cell_counters.specs.declared.account.Log.{Log}
use Rattle.cell_counters.specs.declared.account.Account.{Account}
use Rattle.cell_counters.specs.declared.rule.Setup.{Setup}
use Rattle.cell_counters.specs.declared.rule.View.{View}
use Rattle.cell_counters.specs.declared.rule.Beginning.{Beginning}
use Rattle.cell_counters.specs.Accounts.{answers, offers_on, all_answers, all_offers, all_logs, log_count, IsLawfulCounter, IsLawfulLeast}
use Rattle.cell_counters.specs.BoardModels.{BoardModel, blank}
use Rattle.cell_counters.specs.inside.BoardProtocol.{Keeps, Knows, Stands, IsCounted, IsStored, HasStored, setup_of, tail_of, slot_of, board_of, accounts_of, made_of, root_of, one_more, new_hand, joined_view, empty_view, Seated, Explains, Looks, IsSized}
use Rattle.cell_counters.proofs.Lists.{All-at, around, part_moved, flat_map_moved}
use Rattle.cell_counters.proofs.Logs.{counted_begins, log_welcomes, log_joins, has_number, cell_at-is}
use Rattle.cell_counters.proofs.Cuts.{counter_begins, counter_moved, counter_welcomes}
use Rattle.cell_counters.proofs.Offers.{OnlyEarliest, word_begins, word_moved, word_welcomes}

-- the rule speaks of the words and of what the views make together
pub keeps_as : (n : Setup) (s t : State (Unit {0}) View) → t.words ≡ s.words → t.views ≡ s.views → Keeps n s → Keeps n t
keeps_as n s t words views h =
    let again : Keeps n (record { words = s.words; homes = t.homes; views = s.views }) = record { width = h.width; made = h.made; known = h.known; cuts = h.cuts; offers = h.offers; log = h.log } in
    subst (λ (p : List ℕ × List View). Keeps n (record { words = p.0; homes = t.homes; views = p.1 })) (λ k. (sym words k, sym views k)) again

-- one more hand
pub hand_splits : (n : Setup) (id : ℕ) (v : View) → id ≡ 0 → v.began ≡ n → Splits {S = Unit {0}} (Keeps n) id v (one_more v) (new_hand v)
hand_splits n id v first began s h at =
    let at_front : get_elem? s.views 0 ≡ some v = subst (λ k. get_elem? s.views k ≡ some v) first at in
    subst (λ k. Keeps n (record { words = s.words; homes = s.homes; views = set s.views k (one_more v) ++ new_hand v ∷ [] })) (sym first) (split s.views refl at_front)
  where
    split : (views : List View) → s.views ≡ views → get_elem? s.views 0 ≡ some v → Keeps n (record { words = s.words; homes = s.homes; views = set s.views 0 (one_more v) ++ new_hand v ∷ [] })
    split [] is here = absurd (some-ne-none v (sym here ∙ ap (λ vs. get_elem? vs 0) is))
    split (r ∷ hands) is here =
        let root : r ≡ v = some-injective r v (sym (ap (λ vs. get_elem? vs 0) is) ∙ here) in
        let before : accounts_of s.views ≡ v.accounts ++ accounts_of hands = ap accounts_of is ∙ ap (λ (u : View). u.accounts ++ accounts_of hands) root in
        let views_are : set s.views 0 (one_more v) ++ new_hand v ∷ [] ≡ one_more v ∷ (hands ++ new_hand v ∷ []) = ap (λ vs. set vs 0 (one_more v) ++ new_hand v ∷ []) is in
        let after : accounts_of (set s.views 0 (one_more v) ++ new_hand v ∷ []) ≡ accounts_of s.views ++ blank ∷ [] =
        ap accounts_of views_are ∙ ap (λ l. v.accounts ++ l) (flat_map-append (λ (u : View). u.accounts) hands (new_hand v ∷ []))
        ∙ sym (append_assoc v.accounts (accounts_of hands) (blank ∷ [])) ∙ ap (λ l. l ++ blank ∷ []) (sym before) in
        let made : v.made ≡ length (accounts_of s.views) = sym (ap (λ (u : View). u.made) root) ∙ sym (ap made_of is) ∙ h.made in
        record {
          width = h.width;
          made = ap made_of views_are ∙ ap (λ m. m + 1) made ∙ sym (length_push (accounts_of s.views) blank) ∙ ap length (sym after);
          known = All-push (Knows n) (set s.views 0 (one_more v)) (new_hand v) (All-set (Knows n) s.views 0 (one_more v) (inr began) h.known) (inr began);
          cuts = λ c lt. subst (λ l. IsLawfulCounter l c (slice_index n.starts c) (slice_index s.words c)) (sym after) (counter_welcomes (accounts_of s.views) c (slice_index n.starts c) (slice_index s.words c) (h.cuts c lt));
          offers = λ w lt. subst (λ l. Stands l w (slice_index n.least w) (slice_index s.words (length n.starts + w))) (sym after) (word_welcomes (accounts_of s.views) w (slice_index n.least w) (slice_index s.words (length n.starts + w)) (h.offers w lt));
          log = log_welcomes n s.words s.views 0 v here after h.log;
        }

-- the accounts after a hand was taken in
took_in : (root : View) (front back : List View) (w : View) → accounts_of (joined_view root w ∷ (front ++ empty_view ∷ back)) ≡ (root.accounts ++ w.accounts) ++ (accounts_of front ++ accounts_of back)
took_in root front back w = ap (λ l. (root.accounts ++ w.accounts) ++ l) (flat_map-append (λ (u : View). u.accounts) front (empty_view ∷ back))

-- a hand is taken in
pub root_joins : (n : Setup) (id other : ℕ) (v w : View) → id ≡ 0 → v.began ≡ n → v.awaits ≡ None → w.awaits ≡ None → Joins {S = Unit {0}} (Keeps n) id v other w (joined_view v w) empty_view
root_joins n id other v w first began idle idle_hand s h at apart there =
    let at_front : get_elem? s.views 0 ≡ some v = subst (λ k. get_elem? s.views k ≡ some v) first at in
    let rest_after : get_elem? (set s.views 0 (joined_view v w)) other ≡ some w = subst (λ k. get_elem? (set s.views k (joined_view v w)) other ≡ some w) first there in
    subst (λ k. Keeps n (record { words = s.words; homes = s.homes; views = set (set s.views k (joined_view v w)) other empty_view })) (sym first) (join s.views other refl at_front rest_after (λ e. apart (e ∙ sym first)))
  where
    join : (views : List View) (k : ℕ) → s.views ≡ views → get_elem? s.views 0 ≡ some v → get_elem? (set s.views 0 (joined_view v w)) k ≡ some w → k ≢ 0
        → Keeps n (record { words = s.words; homes = s.homes; views = set (set s.views 0 (joined_view v w)) k empty_view })
    join [] k is here gone apart = absurd (some-ne-none v (sym here ∙ ap (λ vs. get_elem? vs 0) is))
    join (r ∷ hands) zero is here gone apart = absurd (apart refl)
    join (r ∷ hands) (suc k) is here gone apart =
        let root : r ≡ v = some-injective r v (sym (ap (λ vs. get_elem? vs 0) is) ∙ here) in
        let hand : get_elem? hands k ≡ some w = sym (ap (λ vs. get_elem? (set vs 0 (joined_view v w)) (suc k)) is) ∙ gone in
        let parts = around hands k w hand in
        let F = accounts_of parts.front in
        let B = accounts_of parts.back in
        let before : accounts_of s.views ≡ v.accounts ++ (F ++ (w.accounts ++ B)) =
        ap accounts_of is ∙ ap (λ (u : View). u.accounts ++ accounts_of hands) root ∙ ap (λ vs. v.accounts ++ accounts_of vs) parts.is ∙ ap (λ l. v.accounts ++ l) (flat_map-append (λ (u : View). u.accounts) parts.front (w ∷ parts.back)) in
        let views_are : set (set s.views 0 (joined_view v w)) (suc k) empty_view ≡ joined_view v w ∷ (parts.front ++ empty_view ∷ parts.back) =
        ap (λ vs. set (set vs 0 (joined_view v w)) (suc k) empty_view) is ∙ ap (λ vs. joined_view v w ∷ vs) (parts.becomes empty_view) in
        let after : accounts_of (set (set s.views 0 (joined_view v w)) (suc k) empty_view) ≡ (v.accounts ++ w.accounts) ++ (F ++ B) = ap accounts_of views_are ∙ took_in v parts.front parts.back w in
        let xs = accounts_of s.views in
        let ys = accounts_of (set (set s.views 0 (joined_view v w)) (suc k) empty_view) in
        let moved : IsPermutation xs ys = subst (λ l. IsPermutation l ys) (sym before) (subst (IsPermutation (v.accounts ++ (F ++ (w.accounts ++ B)))) (sym after) (part_moved v.accounts F w.accounts B)) in
        let cuts_moved : (c : ℕ) → IsPermutation (all_answers c xs) (all_answers c ys) =
        (λ c. subst (λ l. IsPermutation (all_answers c l) (all_answers c ys)) (sym before) (subst (λ l. IsPermutation (all_answers c (v.accounts ++ (F ++ (w.accounts ++ B)))) (all_answers c l)) (sym after) (flat_map_moved (answers c) v.accounts F w.accounts B))) in
        let offers_moved : (o : ℕ) → IsPermutation (all_offers o xs) (all_offers o ys) =
        (λ o. subst (λ l. IsPermutation (all_offers o l) (all_offers o ys)) (sym before) (subst (λ l. IsPermutation (all_offers o (v.accounts ++ (F ++ (w.accounts ++ B)))) (all_offers o l)) (sym after) (flat_map_moved (offers_on o) v.accounts F w.accounts B))) in
        let logs_moved : IsPermutation (all_logs xs) (all_logs ys) =
        subst (λ l. IsPermutation (all_logs l) (all_logs ys)) (sym before) (subst (λ l. IsPermutation (all_logs (v.accounts ++ (F ++ (w.accounts ++ B)))) (all_logs l)) (sym after) (flat_map_moved (λ (a : Account). a.logs) v.accounts F w.accounts B)) in
        let made : v.made ≡ length xs = sym (ap (λ (u : View). u.made) root) ∙ sym (ap made_of is) ∙ h.made in
        record {
          width = h.width;
          made = ap made_of views_are ∙ made ∙ sym (length_permutation xs ys moved);
          known = All-set (Knows n) (set s.views 0 (joined_view v w)) (suc k) empty_view (inl refl) (All-set (Knows n) s.views 0 (joined_view v w) (inr began) h.known);
          cuts = λ c lt. counter_moved xs ys c (slice_index n.starts c) (slice_index s.words c) moved (cuts_moved c) (h.cuts c lt);
          offers = λ o lt. let was = h.offers o lt in word_moved xs ys o (slice_index n.least o) (slice_index s.words (length n.starts + o)) (All-permutation (OnlyEarliest o) xs ys moved was.lawful.earliest) (offers_moved o) was;
          log = log_joins n s.words s.views 0 (suc k) v w (ap (λ vs. get_elem? vs 0) is ∙ ap some root) gone (ap (λ vs. get_elem? vs (suc k)) is ∙ hand) idle idle_hand logs_moved h.log;
        }

-- no account is another's, where the root has as many as there are
nothing_else : (xs ys : List Account) → length (xs ++ ys) ≡ length xs → xs ++ ys ≡ xs
nothing_else xs [] e = append-nil xs
nothing_else xs (y ∷ ys) e = absurd (omega (arith, length-append xs (y ∷ ys)))

-- what the accounts of all hands say of a word
explains : (n : Setup) (at : ℕ) (s : State (Unit {0}) View) (v : View) → Keeps n s → get_elem? s.views 0 ≡ some v → accounts_of s.views ≡ v.accounts → v.awaits ≡ None → Explains n v.accounts at (slice_index s.words at)
explains n at s v h there mine idle =
    let counters : (c : ℕ) → c < length n.starts → IsLawfulCounter v.accounts c (slice_index n.starts c) (slice_index s.words c) =
    (λ c lt. subst (λ l. IsLawfulCounter l c (slice_index n.starts c) (slice_index s.words c)) mine (h.cuts c lt)) in
    let words : (w : ℕ) → w < length n.least → IsLawfulLeast v.accounts w (slice_index n.least w) (slice_index s.words (length n.starts + w)) =
    (λ w lt. subst (λ l. IsLawfulLeast l w (slice_index n.least w) (slice_index s.words (length n.starts + w))) mine (h.offers w lt).lawful) in
    let counted : IsCounted (all_logs v.accounts) (slice_index s.words (tail_of n)) = subst (λ l. IsCounted (all_logs l) (slice_index s.words (tail_of n))) mine h.log.counted in
    record {
      lawful = record { counters = λ c lt. (slice_index s.words c, counters c lt); words = λ w lt. (slice_index s.words (length n.starts + w), words w lt); log = counted.drawn };
      counter = λ lt. counters at lt;
      least = λ w lt is_at. subst (λ k. IsLawfulLeast v.accounts w (slice_index n.least w) (slice_index s.words k)) (sym is_at) (words w lt);
      tail = λ is_at. ap (λ k. slice_index s.words k) is_at ∙ counted.count;
      cell = λ past within. subst (λ j. slice_index s.words j < 2 ^ 32) (omega arith) (h.log.cells (at - (tail_of n + 1)) (omega arith));
      slot = λ k lt is_at few.
          let stored : HasStored n s.words v = All-at (HasStored n s.words) s.views 0 v there (h.log.stored (subst (λ l. log_count l < 2 ^ 64) (sym mine) few)) in
          ap (λ j. slice_index s.words j) is_at ∙ sym (cell_at-is (all_logs v.accounts) k (slice_index s.words (slot_of n k)) (has_number (all_logs v.accounts) k (slice_index s.words (tail_of n)) (omega arith) few counted)
          (All-weaker (IsStored n s.words v.awaits) (λ (l : Log). l.number ≡ k → l.cell ≡ slice_index s.words (slot_of n k))
          (λ l has is. sym (ap (λ j. slice_index s.words (slot_of n j)) (sym is) ∙ has (omega arith) (λ e. absurd (cc (idle, e))))) (all_logs v.accounts) stored));
    }

-- what a look says to the root
looks : (n : Setup) (slot_count at : ℕ) (me : Seated) (s : State (Unit {0}) View) → me.0.began ≡ n → me.0.awaits ≡ None → Keeps n s → get_elem? s.views 0 ≡ some me.0 → Looks (step slot_count at 0 0 none) me (slice_index s.words at) me
looks n slot_count at me s began idle h there = look s.views refl there
  where
    look : (views : List View) → s.views ≡ views → get_elem? s.views 0 ≡ some me.0 → Looks (step slot_count at 0 0 none) me (slice_index s.words at) me
    look [] is here = absurd (some-ne-none me.0 (sym here ∙ ap (λ vs. get_elem? vs 0) is))
    look (r ∷ hands) is here =
        let root : r ≡ me.0 = some-injective r me.0 (sym (ap (λ vs. get_elem? vs 0) is) ∙ here) in
        let all : accounts_of s.views ≡ me.0.accounts ++ accounts_of hands = ap accounts_of is ∙ ap (λ (u : View). u.accounts ++ accounts_of hands) root in
        let made : me.0.made ≡ length (me.0.accounts ++ accounts_of hands) = sym (ap (λ (u : View). u.made) root) ∙ sym (ap made_of is) ∙ h.made ∙ ap length all in
        record {
          same = refl;
          made = omega (arith, length-append me.0.accounts (accounts_of hands));
          explained = λ alone.
              subst (λ (m : Setup). Explains m me.0.accounts at (slice_index s.words at)) (sym began)
              (explains n at s me.0 h here (all ∙ nothing_else me.0.accounts (accounts_of hands) (sym made ∙ sym alone)) idle);
        }

pub look_allowed : (n : Setup) (slot_count id at : ℕ) (me : Seated) → id ≡ 0 → me.0.began ≡ n → me.0.awaits ≡ None → Allows (Keeps n) slot_count id me at (λ m. m) (Looks (step slot_count at 0 0 none) me)
look_allowed n slot_count id at me first began idle s h home there small =
    let front : get_elem? s.views 0 ≡ some me.0 = subst (λ k. get_elem? s.views k ≡ some me.0) first there in (
      me.0,
      keeps,
      tt,
      keeps_as n s (record { words = set s.words at (slice_index s.words at); homes = s.homes; views = set s.views id me.0 }) (set-get_or s.words at 0) (set_again s.views id me.0 there) h,
      looks n slot_count at me s began idle h front,
    )

-- where the words of a table lie
pub starts_len : (b : Beginning) (counters tail slots words : ℕ) → IsSized b counters tail slots words → length (setup_of b).starts ≡ counters
starts_len b counters tail slots words sized = length-take-le b.counters b.words.items (omega (arith, sized.split, sized.within, sized.both)) ∙ sym sized.split

pub tail_is : (b : Beginning) (counters tail slots words : ℕ) → IsSized b counters tail slots words → tail_of (setup_of b) ≡ tail
tail_is b counters tail slots words sized =
    let front = starts_len b counters tail slots words sized in
    let len : length (setup_of b).least ≡ length b.words.items - b.counters = length-drop b.counters b.words.items in
    omega (arith, sized.split, sized.within, sized.both)

-- two boards that look alike began alike
pub setup_is : (t u : TableId) (m n : Setup) → board_of t m ≡ board_of u n → m ≡ n
setup_is t u m n e = ap begun e
  where
    begun : BoardModel → Setup
    begun b = record { starts = b.starts; least = b.least; slots = b.slots }

-- a new table keeps the rule
pub begins : (b : Beginning) (counters tail slots words : ℕ) → IsSized b counters tail slots words → All (λ m. m < 2 ^ 64) b.words.items → Keeps (setup_of b) (opening (b.words.items ++ replicate (1 + slots) 0) [] (root_of b))
begins b counters tail slots words sized small =
    let items = b.words.items in
    let zeros : List ℕ = replicate (1 + slots) 0 in
    let n = setup_of b in
    let front : length (take b.counters items) ≡ counters = starts_len b counters tail slots words sized in
    let tail_at : tail_of n ≡ tail = tail_is b counters tail slots words sized in
    let zero_at : (k : ℕ) → k < 1 + slots → slice_index (items ++ zeros) (tail + k) ≡ 0 =
    (λ k lt. ap (λ j. slice_index (items ++ zeros) (j + k)) sized.both ∙ get_or-append-add items zeros k 0 ∙ get_or-replicate (1 + slots) k 0 0 lt) in
    record {
      width = length-append items zeros ∙ omega (arith, length-replicate {A = ℕ} (1 + slots) 0, sized.both, sized.log);
      made = refl;
      known = All-cons (Knows n) (root_of b) [] (inr refl) (All-nil (Knows n));
      cuts = λ c lt.
          let at : slice_index (take b.counters items) c ≡ slice_index (items ++ zeros) c = get_or-take b.counters items c 0 (omega arith) ∙ sym (get_or_append_left items zeros 0 c (omega arith)) in
          let bound : slice_index (items ++ zeros) c < 2 ^ 64 = subst (λ m. m < 2 ^ 64) (sym (get_or_append_left items zeros 0 c (omega arith))) (small c 0 (omega arith)) in
          subst (λ m. IsLawfulCounter [] c m (slice_index (items ++ zeros) c)) (sym at) (counter_begins c (slice_index (items ++ zeros) c) bound);
      offers = λ w lt.
          let there : b.counters + w < length items = omega (arith, front, tail_at, sized.both, sized.split) in
          let at : slice_index (drop b.counters items) w ≡ slice_index (items ++ zeros) (length (take b.counters items) + w) =
          get_or-drop b.counters items w 0 ∙ sym (get_or_append_left items zeros 0 (b.counters + w) there) ∙ ap (λ m. slice_index (items ++ zeros) (m + w)) (sym (front ∙ sized.split)) in
          let bound : slice_index (drop b.counters items) w < 2 ^ 64 = subst (λ m. m < 2 ^ 64) (sym (get_or-drop b.counters items w 0)) (small (b.counters + w) 0 there) in
          subst (λ m. Stands [] w (slice_index (drop b.counters items) w) m) at (word_begins w (slice_index (drop b.counters items) w) bound);
      log = record {
        counted = subst (IsCounted []) (sym (ap (λ j. slice_index (items ++ zeros) j) (omega arith) ∙ zero_at 0 (omega arith))) counted_begins;
        cells = λ k lt. subst (λ x. x < 2 ^ 32) (sym (ap (λ j. slice_index (items ++ zeros) j) (omega arith) ∙ zero_at (1 + k) (omega (arith, sized.log)))) (omega arith);
        stored = λ few. All-cons (HasStored n (items ++ zeros)) (root_of b) [] (All-nil (IsStored n (items ++ zeros) None)) (All-nil (HasStored n (items ++ zeros)));
      };
    }
