-- What a step does to the log.
use Rattle.std.proofs.Common.{◌≡◌, ◌≢◌, ℕ, zero, suc, ◌+◌, ◌%◌, ◌^◌, ◌<◌, ◌≤◌, Bool, cond, Option, Some, None, List, [], ◌∷◌, ◌++◌, length, get_or, set, eq-eqb, ne_eqb, refl, sym, ap, ◌∙◌, subst, arith, All, Contains, IsPermutation}
use Rattle.std.specs.Prelude.{slice_index}
use Rattle.std.specs.List.{range_with_len}
use mathlib.Core.Option.{some}
use mathlib.Core.Logic.{dite}
use native.Mathlib.Decide.{ℕ_discrete}
use lib.ListN.{get_elem?}
use Rattle.std.proofs.lemmas.Bool.{lt-ltb}
use Rattle.std.proofs.lemmas.List.{append-nil, get_or-set_same, get_or-set_other}
use Rattle.std.proofs.lemmas.List.FromFn.{length-range_with_len, get_or-range_with_len}
use Rattle.std.proofs.lemmas.List.Concat.{flat_map-append}
use Rattle.std.proofs.lemmas.List.Elements.{All-nil, All-cons, All-head, All-tail, All-set, All-push, All-append, All-weaker}
use Rattle.std.proofs.lemmas.List.Sorted.{IsPermutation-refl, IsPermutation-trans, IsPermutation-cons, IsPermutation-map, IsPermutation-to_front, All-permutation, Contains-permutation, length_permutation}
use Rattle.cell_counters.specs.declared.account.Log.{Log}
use Rattle.cell_counters.specs.declared.account.Account.{Account}
use Rattle.cell_counters.specs.declared.rule.Setup.{Setup}
use Rattle.cell_counters.specs.declared.rule.View.{View}
use Rattle.cell_counters.specs.Accounts.{all_logs, log_count, numbers, cell_at}
use Rattle.cell_counters.specs.BoardModels.{blank, with_log}
use Rattle.cell_counters.specs.inside.BoardProtocol.{accounts_of, account_of, tail_of, slot_of, IsCounted, IsStored, HasStored, KeepsLog, awaited, view_after_draw, view_after_store, one_more, new_hand, joined_view, empty_view}
use Rattle.cell_counters.proofs.Lists.{All-at, All-parts, All-joined, pushed_inside}
use Rattle.cell_counters.proofs.Parts.{replaced, entries_were, entries_stay, entries_grow}
use Rattle.cell_counters.proofs.Counts.{times-permutation, range_once, range-append, never}
use Rattle.base.specs.Counts.{times}
use Rattle.base.proofs.Times.{times-cons, one_if_here}

abbrev number_of : Log → ℕ
number_of l = l.number

abbrev logs_of : Account → List Log
logs_of a = a.logs

-- with no account nothing was logged
pub counted_begins : IsCounted [] 0
counted_begins = record { count = omega arith; drawn = λ few. IsPermutation-refl [] }

-- the logs are in another order
pub counted_moved : (xs ys : List Log) (now : ℕ) → IsPermutation xs ys → IsCounted xs now → IsCounted ys now
counted_moved xs ys now same h =
    let len : length ys ≡ length xs = length_permutation xs ys same in
    record {
      count = h.count ∙ ap (λ n. n % 2 ^ 64) (sym len);
      drawn = λ few.
          subst (λ n. IsPermutation (range_with_len 0 n) (numbers ys)) (sym len)
          (IsPermutation-trans (range_with_len 0 (length xs)) (numbers xs) (numbers ys) (h.drawn (omega arith)) (IsPermutation-map number_of xs ys same));
    }

-- one more log, with the number that the tail had
counted_more : (xs ys : List Log) (l : Log) (now : ℕ) → l.number ≡ now → IsPermutation (l ∷ xs) ys → IsCounted xs now → IsCounted ys ((now + 1) % 2 ^ 64)
counted_more xs ys l now is same h =
    let n = length xs in
    let len : length ys ≡ n + 1 = length_permutation (l ∷ xs) ys same ∙ omega arith in
    let was = h.count in
    record {
      count = ap (λ m. (m + 1) % 2 ^ 64) was ∙ omega arith;
      drawn = λ few.
          let here : n ≡ l.number = omega arith in
          let grown : range_with_len 0 (length ys) ≡ range_with_len 0 n ++ l.number ∷ [] =
          range-append 0 n 1 n (length ys) (omega arith) (omega arith) ∙ ap (λ m. range_with_len 0 n ++ m ∷ []) here in
          subst (λ r. IsPermutation r (numbers ys)) (sym grown)
          (IsPermutation-trans (range_with_len 0 n ++ l.number ∷ []) (l.number ∷ range_with_len 0 n) (numbers ys) (IsPermutation-to_front (range_with_len 0 n) l.number)
          (IsPermutation-trans (l.number ∷ range_with_len 0 n) (numbers (l ∷ xs)) (numbers ys) (IsPermutation-cons l.number (range_with_len 0 n) (numbers xs) (h.drawn (omega arith))) (IsPermutation-map number_of (l ∷ xs) ys same)));
    }

-- all logs with a number have one cell
has_cell : (xs rest : List Log) (l : Log) (now : ℕ) → IsPermutation (l ∷ rest) xs → length xs < 2 ^ 64 → IsCounted xs now → All (λ (m : Log). m.number ≡ l.number → m.cell ≡ l.cell) xs
has_cell xs rest l now same few h =
    let once = range_once l.number 0 (length xs) in
    let all = times-permutation l.number (range_with_len 0 (length xs)) (numbers xs) (h.drawn few) in
    let both = times-permutation l.number (numbers (l ∷ rest)) (numbers xs) (IsPermutation-map number_of (l ∷ rest) xs same) in
    let parts = times-cons l.number l.number (numbers rest) in
    let one = one_if_here l.number l.number refl in
    All-permutation (λ (m : Log). m.number ≡ l.number → m.cell ≡ l.cell) (l ∷ rest) xs same
    (All-cons (λ (m : Log). m.number ≡ l.number → m.cell ≡ l.cell) l rest (λ e. refl)
    (All-weaker (λ (m : Log). m.number ≢ l.number) (λ (m : Log). m.number ≡ l.number → m.cell ≡ l.cell) (λ m apart e. absurd (apart e)) rest (never number_of l.number rest (omega arith))))

-- some log has each number that was drawn
pub has_number : (logs : List Log) (k now : ℕ) → k < length logs → length logs < 2 ^ 64 → IsCounted logs now → Contains (numbers logs) k
has_number logs k now lt few h =
    let len = length-range_with_len 0 (length logs) in
    Contains-permutation (range_with_len 0 (length logs)) (numbers logs) k (h.drawn few) (k, omega arith, get_or-range_with_len 0 (length logs) k k lt ∙ omega arith)

-- where all logs with a number have one cell, that is the cell at it
pub cell_at-is : (logs : List Log) (k cell : ℕ) → Contains (numbers logs) k → All (λ (l : Log). l.number ≡ k → l.cell ≡ cell) logs → cell_at k logs ≡ cell
cell_at-is [] k cell (i, lt, e) told = absurd (omega arith)
cell_at-is (l ∷ rest) k cell has told =
    dite (ℕ_discrete l.number k)
    (λ (here : l.number ≡ k). ap (λ (b : Bool). cond b l.cell (cell_at k rest)) (eq-eqb l.number k here) ∙ All-head (λ (m : Log). m.number ≡ k → m.cell ≡ cell) l rest told here)
    (λ (else : l.number ≢ k). ap (λ (b : Bool). cond b l.cell (cell_at k rest)) (ne_eqb l.number k else) ∙ cell_at-is rest k cell (later else has) (All-tail (λ (m : Log). m.number ≡ k → m.cell ≡ cell) l rest told))
  where
    later : l.number ≢ k → Contains (numbers (l ∷ rest)) k → Contains (numbers rest) k
    later else (zero, lt, e) = absurd (else e)
    later else (suc i, lt, e) = (i, omega arith, e)

-- where no number was drawn twice, the cell of each log is the cell at its number
pub cells_told : (logs : List Log) → ((v : ℕ) → times v (numbers logs) ≤ 1) → All (λ (l : Log). cell_at l.number logs ≡ l.cell) logs
cells_told [] once = λ k d lt. absurd (omega arith)
cells_told (x ∷ xs) once =
    let rest = cells_told xs (λ v. let both = times-cons v x.number (numbers xs) in let all = once v in omega arith) in
    let apart : All (λ (l : Log). l.number ≢ x.number) xs =
    never number_of x.number xs (let both = times-cons x.number x.number (numbers xs) in let one = one_if_here x.number x.number refl in let all = once x.number in omega arith) in
    All-cons (λ (l : Log). cell_at l.number (x ∷ xs) ≡ l.cell) x xs (ap (λ (b : Bool). cond b x.cell (cell_at x.number xs)) (eq-eqb x.number x.number refl))
    (λ k d lt. let l : Log = get_or xs k d in ap (λ (b : Bool). cond b x.cell (cell_at l.number xs)) (ne_eqb x.number l.number (λ e. apart k d lt (sym e))) ∙ rest k d lt)

-- each view's logs have what all logs have
of_views : (P : Log → Type 0) (views : List View) → All P (all_logs (accounts_of views)) → All (λ (v : View). All P (all_logs v.accounts)) views
of_views P views h =
    All-weaker (λ (v : View). All (λ (a : Account). All P a.logs) v.accounts) (λ (v : View). All P (all_logs v.accounts)) (λ v each. All-joined P (λ (a : Account). a.logs) v.accounts each) views
    (All-parts (λ (a : Account). All P a.logs) (λ (v : View). v.accounts) views (All-parts P (λ (a : Account). a.logs) (accounts_of views) h))

-- a step that logs nothing, and changes no word of the log
pub log_stays : (n : Setup) (words others : List ℕ) (views : List View) (id : ℕ) (v w : View) (a b : Account) → get_elem? views id ≡ some v → v.accounts ≡ a ∷ [] → w.accounts ≡ b ∷ [] → b.logs ≡ a.logs → w.awaits ≡ v.awaits
    → ((k : ℕ) → tail_of n ≤ k → slice_index others k ≡ slice_index words k) → KeepsLog n words views → KeepsLog n others (set views id w)
log_stays n words others views id v w a b at one other logs awaits same h =
    let all : all_logs (accounts_of (set views id w)) ≡ all_logs (accounts_of views) = entries_stay logs_of (accounts_of views) (accounts_of (set views id w)) a b (replaced views id v w a b at one other) logs in
    let own : all_logs v.accounts ≡ all_logs w.accounts = ap all_logs one ∙ ap (λ l. l ++ []) (sym logs) ∙ ap all_logs (sym other) in
    let mine : HasStored n words v → HasStored n words w = subst (λ (p : List Log × Option ℕ). All (IsStored n words p.1) p.0) (λ k. (own k, sym awaits k)) in
    let moved : (u : View) → HasStored n words u → HasStored n others u =
    (λ u. All-weaker (IsStored n words u.awaits) (IsStored n others u.awaits) (λ l has below apart. same (slot_of n l.number) (omega arith) ∙ has below apart) (all_logs u.accounts)) in
    record {
      counted = subst (IsCounted (all_logs (accounts_of (set views id w)))) (sym (same (tail_of n) (omega arith))) (subst (λ l. IsCounted l (slice_index words (tail_of n))) (sym all) h.counted);
      cells = λ k lt. subst (λ x. x < 2 ^ 32) (sym (same (slot_of n k) (omega arith))) (h.cells k lt);
      stored = λ few.
          let was : All (HasStored n words) views = h.stored (subst (λ l. length l < 2 ^ 64) all few) in
          All-set (HasStored n others) views id w (moved w (mine (All-at (HasStored n words) views id v at was))) (All-weaker (HasStored n words) (HasStored n others) moved views was);
    }

pub awaited_is : (slots number : ℕ) → number < slots → awaited slots number ≡ Some number
awaited_is slots number lt = ap (λ (b : Bool). cond b (Some number) None) (lt-ltb number slots lt)

-- a draw
pub log_draws : (n : Setup) (words : List ℕ) (views : List View) (id cell : ℕ) (v : View) → get_elem? views id ≡ some v → v.accounts ≡ account_of v ∷ [] → v.awaits ≡ None → v.began ≡ n → tail_of n < length words
    → KeepsLog n words views → KeepsLog n (set words (tail_of n) ((slice_index words (tail_of n) + 1) % 2 ^ 64)) (set views id (view_after_draw v cell (slice_index words (tail_of n))))
log_draws n words views id cell v at one idle began there h =
    let now = slice_index words (tail_of n) in
    let l : Log = record { cell = cell; number = now } in
    let w = view_after_draw v cell now in
    let others = set words (tail_of n) ((now + 1) % 2 ^ 64) in
    let a = account_of v in
    let b = with_log a cell now in
    let xs = accounts_of views in
    let ys = accounts_of (set views id w) in
    let mine : all_logs v.accounts ≡ a.logs = ap all_logs one ∙ append-nil a.logs in
    let new : all_logs w.accounts ≡ a.logs ++ l ∷ [] = append-nil (a.logs ++ l ∷ []) in
    let grown : IsPermutation (l ∷ all_logs xs) (all_logs ys) = entries_grow logs_of xs ys a b (replaced views id v w a b at one refl) l refl in
    let count : log_count ys ≡ log_count xs + 1 = length_permutation (l ∷ all_logs xs) (all_logs ys) grown ∙ omega arith in
    let apart : (k : ℕ) → slice_index others (slot_of n k) ≡ slice_index words (slot_of n k) = (λ k. get_or-set_other words (tail_of n) (slot_of n k) ((now + 1) % 2 ^ 64) 0 (λ e. absurd (omega arith))) in
    let moved : (u : View) → HasStored n words u → HasStored n others u = (λ u. All-weaker (IsStored n words u.awaits) (IsStored n others u.awaits) (λ m has below free. apart m.number ∙ has below free) (all_logs u.accounts)) in
    record {
      counted = subst (IsCounted (all_logs ys)) (sym (get_or-set_same words (tail_of n) ((now + 1) % 2 ^ 64) 0 there))
          (counted_more (all_logs xs) (all_logs ys) l now refl grown h.counted);
      cells = λ k lt. subst (λ x. x < 2 ^ 32) (sym (apart k)) (h.cells k lt);
      stored = λ few.
          let before : All (HasStored n words) views = h.stored (omega arith) in
          let own : HasStored n others v = moved v (All-at (HasStored n words) views id v at before) in
          let earlier : All (IsStored n others w.awaits) a.logs =
          subst (All (IsStored n others w.awaits)) mine
          (All-weaker (IsStored n others v.awaits) (IsStored n others w.awaits) (λ m has below free. has below (λ e. absurd (cc (idle, e)))) (all_logs v.accounts) own) in
          let latest : IsStored n others w.awaits l = (λ below free. absurd (free (awaited_is v.began.slots now (subst (λ (m : Setup). now < m.slots) (sym began) below)))) in
          All-set (HasStored n others) views id w (subst (All (IsStored n others w.awaits)) (sym new) (All-push (IsStored n others w.awaits) a.logs l earlier latest)) (All-weaker (HasStored n words) (HasStored n others) moved views before);
    }

-- a store at the slot that was drawn
pub log_stores : (n : Setup) (words : List ℕ) (views : List View) (id cell slot : ℕ) (v : View) (a : Account) → get_elem? views id ≡ some v → v.accounts ≡ with_log a cell slot ∷ [] → v.awaits ≡ Some slot → slot < n.slots → cell < 2 ^ 32 → slot_of n slot < length words
    → KeepsLog n words views → KeepsLog n (set words (slot_of n slot) cell) (set views id (view_after_store v))
log_stores n words views id cell slot v a at one awaits lt small there h =
    let l : Log = record { cell = cell; number = slot } in
    let others = set words (slot_of n slot) cell in
    let w = view_after_store v in
    let b = with_log a cell slot in
    let xs = accounts_of views in
    let ys = accounts_of (set views id w) in
    let r = replaced views id v w b b at one one in
    let F = all_logs r.front in
    let R = all_logs r.back in
    let all : all_logs ys ≡ all_logs xs = entries_stay logs_of xs ys b b r refl in
    let grown : IsPermutation (l ∷ (F ++ (a.logs ++ R))) (all_logs xs) = subst (IsPermutation (l ∷ (F ++ (a.logs ++ R)))) (sym (entries_were logs_of xs ys b b r)) (pushed_inside F a.logs R l) in
    let tail : slice_index others (tail_of n) ≡ slice_index words (tail_of n) = get_or-set_other words (slot_of n slot) (tail_of n) cell 0 (λ e. absurd (omega arith)) in
    let here : slice_index others (slot_of n slot) ≡ cell = get_or-set_same words (slot_of n slot) cell 0 there in
    let apart : (k : ℕ) → k ≢ slot → slice_index others (slot_of n k) ≡ slice_index words (slot_of n k) = (λ k other. get_or-set_other words (slot_of n slot) (slot_of n k) cell 0 (λ e. other (omega arith))) in
    let kept : (x y : Option ℕ) (m : Log) → ((m.number ≢ slot) → y ≢ Some m.number → x ≢ Some m.number) → IsStored n words x m → (m.number ≡ slot → m.cell ≡ cell) → IsStored n others y m =
    (λ x y m frees has told below free.
    dite (ℕ_discrete m.number slot)
    (λ (same : m.number ≡ slot). ap (λ k. slice_index others (slot_of n k)) same ∙ here ∙ sym (told same))
    (λ (other : m.number ≢ slot). apart m.number other ∙ has below (frees other free))) in
    record {
      counted = subst (IsCounted (all_logs ys)) (sym tail) (subst (λ x. IsCounted x (slice_index words (tail_of n))) (sym all) h.counted);
      cells = λ k below.
          dite (ℕ_discrete k slot)
          (λ (same : k ≡ slot). subst (λ x. x < 2 ^ 32) (sym (ap (λ j. slice_index others (slot_of n j)) same ∙ here)) small)
          (λ (other : k ≢ slot). subst (λ x. x < 2 ^ 32) (sym (apart k other)) (h.cells k below));
      stored = λ few.
          let few_before : log_count xs < 2 ^ 64 = subst (λ x. length x < 2 ^ 64) all few in
          let before : All (HasStored n words) views = h.stored few_before in
          let told : All (λ (u : View). All (λ (m : Log). m.number ≡ slot → m.cell ≡ cell) (all_logs u.accounts)) views =
          of_views (λ (m : Log). m.number ≡ slot → m.cell ≡ cell) views (has_cell (all_logs xs) (F ++ (a.logs ++ R)) l (slice_index words (tail_of n)) grown few_before h.counted) in
          let own = All-at (HasStored n words) views id v at before in
          let own_told = All-at (λ (u : View). All (λ (m : Log). m.number ≡ slot → m.cell ≡ cell) (all_logs u.accounts)) views id v at told in
          All-set (HasStored n others) views id w
          (λ k d in_range. kept v.awaits None _ (λ other free e. other (cc (awaits, e))) (own k d in_range) (own_told k d in_range))
          (λ k d in_range j e in_logs. kept _ _ _ (λ other free. free) (before k d in_range j e in_logs) (told k d in_range j e in_logs));
    }

-- one more hand
pub log_welcomes : (n : Setup) (words : List ℕ) (views : List View) (id : ℕ) (v : View) → get_elem? views id ≡ some v → accounts_of (set views id (one_more v) ++ new_hand v ∷ []) ≡ accounts_of views ++ blank ∷ [] → KeepsLog n words views → KeepsLog n words (set views id (one_more v) ++ new_hand v ∷ [])
log_welcomes n words views id v at after h =
    let all : all_logs (accounts_of (set views id (one_more v) ++ new_hand v ∷ [])) ≡ all_logs (accounts_of views) =
    ap all_logs after ∙ flat_map-append (λ (a : Account). a.logs) (accounts_of views) (blank ∷ []) ∙ append-nil (all_logs (accounts_of views)) in
    record {
      counted = subst (λ l. IsCounted l (slice_index words (tail_of n))) (sym all) h.counted;
      cells = h.cells;
      stored = λ few.
          let was : All (HasStored n words) views = h.stored (subst (λ l. length l < 2 ^ 64) all few) in
          All-push (HasStored n words) (set views id (one_more v)) (new_hand v) (All-set (HasStored n words) views id (one_more v) (All-at (HasStored n words) views id v at was) was) (All-nil (IsStored n words None));
    }

-- a hand is taken in
pub log_joins : (n : Setup) (words : List ℕ) (views : List View) (id other : ℕ) (v w : View) → get_elem? views id ≡ some v → get_elem? (set views id (joined_view v w)) other ≡ some w → get_elem? views other ≡ some w → v.awaits ≡ None → w.awaits ≡ None
    → IsPermutation (all_logs (accounts_of views)) (all_logs (accounts_of (set (set views id (joined_view v w)) other empty_view))) → KeepsLog n words views → KeepsLog n words (set (set views id (joined_view v w)) other empty_view)
log_joins n words views id other v w at there there_before idle idle_hand moved h =
    let xs = all_logs (accounts_of views) in
    let ys = all_logs (accounts_of (set (set views id (joined_view v w)) other empty_view)) in
    let len : length ys ≡ length xs = length_permutation xs ys moved in
    record {
      counted = counted_moved xs ys (slice_index words (tail_of n)) moved h.counted;
      cells = h.cells;
      stored = λ few.
          let was : All (HasStored n words) views = h.stored (omega arith) in
          let root : HasStored n words v = All-at (HasStored n words) views id v at was in
          let hand : All (IsStored n words v.awaits) (all_logs w.accounts) = subst (λ x. All (IsStored n words x) (all_logs w.accounts)) (idle_hand ∙ sym idle) (All-at (HasStored n words) views other w there_before was) in
          let both : HasStored n words (joined_view v w) =
          subst (All (IsStored n words v.awaits)) (sym (flat_map-append (λ (a : Account). a.logs) v.accounts w.accounts)) (All-append (IsStored n words v.awaits) (all_logs v.accounts) (all_logs w.accounts) root hand) in
          All-set (HasStored n words) (set views id (joined_view v w)) other empty_view (All-nil (IsStored n words None)) (All-set (HasStored n words) views id (joined_view v w) both was);
    }
