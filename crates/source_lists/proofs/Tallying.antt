-- One more cell, or some more, that is counted or that a pair is put at.
use Rattle.std.proofs.Common.{◌≡◌, ◌≢◌, ℕ, zero, suc, ◌+◌, ◌<◌, ◌≤◌, ◌==◌, List, [], ◌∷◌, ◌++◌, All, length, map, take, drop, get_or, set, refl, sym, ap, subst, ◌∙◌, arith, inl, inr, append_assoc, append-nil}
use Rattle.std.specs.List.{range_with_len}
use Rattle.std.proofs.lemmas.Bool.{cases_eq}
use Rattle.std.proofs.lemmas.Grind.{get_or-set_at}
use Rattle.std.proofs.lemmas.List.{drop_more, drop-set-lt, take_more_set, length-set, length-take, length-drop, get_or_default, get_or-take, get_or-drop, get_or-set_other}
use Rattle.std.proofs.lemmas.List.Elements.{All-tail}
use Rattle.std.proofs.lemmas.List.Sums.{sum_by-set}
use Rattle.game_core.specs.Counts.{one_if, times}
use Rattle.edge_rows.specs.Rows.{Filling, row_at, with_value, with_each_changed, with_value_each, EachHasFreeSlot}
use Rattle.edge_rows.proofs.RunsLaid.{run_none, run_more}
use Rattle.source_lists.specs.inside.Tallies.{AreCounted, ArePut, HasCapacityFor}
use Rattle.source_lists.specs.inside.IntakeLaws.{counted_none, counted_more, put_more}
use Rattle.base.proofs.Times.{times-cons, one_if_here, one_if_elsewhere, in_range}

-- a number is a cell or another
pub by_cell : {P : Type 0} (c x : ℕ) → (c ≡ x → P) → (c ≢ x → P) → P
by_cell c x same other = elim (cases_eq c x) [ inl is ↦ same is | inr apart ↦ other apart ]

-- a cell alone, or another number
alone : (c x : ℕ) → times c (x ∷ []) ≡ one_if (x == c)
alone c x = let none : times c [] ≡ 0 = refl in omega (arith, times-cons c x [])

-- ---- one cell

counted_one : (counts : List ℕ) (x : ℕ) → x < length counts → AreCounted counts (set counts x (get_or counts x 0 + 1)) (x ∷ [])
counted_one counts x within =
    let next : ℕ = get_or counts x 0 + 1 in
    record {
      long = length-set counts x next;
      each = λ c. by_cell c x
          (λ same. omega (arith, get_or-set_at counts x c next 0 same within, ap (λ (i : ℕ). get_or counts i 0) same, alone c x, one_if_here x c (sym same)))
          (λ other. omega (arith, get_or-set_other counts x c next 0 other, alone c x, one_if_elsewhere x c (λ same. other (sym same))));
      total = omega (arith, sum_by-set (λ n. n) counts x next 0 within);
    }

put_one : (pair : ℕ) (before : Filling) (x : ℕ) → x < length before.rows → ArePut pair before (record before { rows = with_value before.rows x pair }) (x ∷ [])
put_one pair before x within =
    let row : List ℕ = row_at before.rows x ++ pair ∷ [] in
    record {
      long = length-set before.rows x row;
      lengths = refl;
      each = λ c below. by_cell c x
          (λ same.
          let times_is : times c (x ∷ []) ≡ 1 = alone c x ∙ one_if_here x c (sym same) in
          rw times_is (get_or-set_at before.rows x c row [] same within ∙ ap (λ (i : ℕ). row_at before.rows i ++ pair ∷ []) (sym same)))
          (λ other.
          let times_is : times c (x ∷ []) ≡ 0 = alone c x ∙ one_if_elsewhere x c (λ same. other (sym same)) in
          rw times_is (get_or-set_other before.rows x c row [] other ∙ sym (append-nil (row_at before.rows c))));
    }

-- ---- segments

-- one is added to each count of a segment
pub counted_segment : (counts : List ℕ) (r n : ℕ) → r + n ≤ length counts → AreCounted counts (with_each_changed (λ count. count + 1) counts r n) (range_with_len r n)
counted_segment counts r zero within = rw (run_none (λ count. count + 1) counts r) (counted_none counts)
counted_segment counts r (suc n) within =
    let here : r < length counts = omega (arith, within) in
    let now : List ℕ = set counts r (get_or counts r 0 + 1) in
    let later = counted_segment now (r + 1) n (omega (arith, within, length-set counts r (get_or counts r 0 + 1))) in
    rw (run_more (λ count. count + 1) 0 counts r n here) (counted_more counts now _ (r ∷ []) (range_with_len (r + 1) n) (counted_one counts r here) later)

-- one is added to the next count
pub one_added : (before items : List ℕ) (i : ℕ) → i < length items → map (λ count. count + 1) before ≡ take i items ++ map (λ count. count + 1) (drop i items) →
    map (λ count. count + 1) before ≡ take (i + 1) (set items i (get_or items i 0 + 1)) ++ map (λ count. count + 1) (drop (i + 1) (set items i (get_or items i 0 + 1)))
one_added before items i lt h =
    let next : ℕ = get_or items i 0 + 1 in
    h
    ∙ ap (λ xs. take i items ++ map (λ count. count + 1) xs) (drop_more items i 0 lt)
    ∙ sym (append_assoc (take i items) (next ∷ []) (map (λ count. count + 1) (drop (i + 1) items)))
    ∙ ap (λ xs. xs ++ map (λ count. count + 1) (drop (i + 1) items)) (sym (take_more_set items i next lt))
    ∙ ap (λ xs. take (i + 1) (set items i next) ++ map (λ count. count + 1) xs) (sym (drop-set-lt (i + 1) items i next (omega arith)))

pub others_fit : (bound : ℕ) (items : List ℕ) (i : ℕ) → i < length items → All (λ count. count + 1 < bound) (drop i items) → All (λ count. count + 1 < bound) (drop (i + 1) (set items i (get_or items i 0 + 1)))
others_fit bound items i lt capacity =
    rw (drop-set-lt (i + 1) items i (get_or items i 0 + 1) (omega arith))
    (All-tail (λ count. count + 1 < bound) (get_or items i 0) (drop (i + 1) items) (subst (All (λ count. count + 1 < bound)) (drop_more items i 0 lt) capacity))

-- there is room for one more in each count of a segment
pub segment_counts_fit : (bound : ℕ) (counts : List ℕ) (r n k : ℕ) → k ≡ n → r + n ≤ length counts → ((c : ℕ) → get_or counts c 0 + times c (range_with_len r n) < bound) → All (λ count. count + 1 < bound) (take k (drop r counts))
segment_counts_fit bound counts r n k same within capacity = λ i d lt.
    let below : i < n = omega (arith, lt, same, length-take k (drop r counts), length-drop r counts, within) in
    let is : get_or (take k (drop r counts)) i d ≡ get_or counts (r + i) 0 =
    get_or-take k (drop r counts) i d (omega (arith, below, same)) ∙ get_or-drop r counts i d ∙ get_or_default counts (r + i) d 0 (omega (arith, below, within))
    in
    omega (arith, is, capacity (r + i), in_range (r + i) r n (omega arith) (omega (arith, below)))

-- a pair is put in each row of a segment
pub put_each : (pair : ℕ) (before after : Filling) (r n : ℕ) → r + n ≤ length before.rows → after.rows ≡ with_value_each before.rows r n pair → after.lengths ≡ before.lengths → ArePut pair before after (range_with_len r n)
put_each pair before after r zero within rows lengths =
    let same = rows ∙ run_none (λ row. row ++ pair ∷ []) before.rows r in
    record { long = ap length same; lengths = lengths; each = λ c below. ap (λ (rs : List (List ℕ)). row_at rs c) same ∙ sym (append-nil (row_at before.rows c)) }
put_each pair before after r (suc n) within rows lengths =
    let here : r < length before.rows = omega (arith, within) in
    let now : Filling = record before { rows = with_value before.rows r pair } in
    let long = length-set before.rows r (row_at before.rows r ++ pair ∷ []) in
    let later = put_each pair now after (r + 1) n (omega (arith, within, long)) (rows ∙ run_more (λ row. row ++ pair ∷ []) [] before.rows r n here) lengths in
    put_more pair before now after (r ∷ []) (range_with_len (r + 1) n) (put_one pair before r here) later

-- the rows of a segment have room
pub segment_has_capacity : (f : Filling) (r n : ℕ) → r + n ≤ length f.rows → HasCapacityFor f (range_with_len r n) → EachHasFreeSlot f r n
segment_has_capacity f r n within capacity = λ c low high.
    let below : c < length f.rows = omega (arith, within, high) in (below, omega (arith, capacity c below, in_range c r n low high))
