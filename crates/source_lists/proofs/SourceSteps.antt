-- One more pair whose box is counted, or that is put at the cells of its box.
use Rattle.std.proofs.Common.{◌≡◌, ℕ, zero, suc, ◌+◌, ◌/◌, ◌^◌, ◌<◌, ◌≤◌, ◌==◌, List, [], ◌++◌, All, length, replicate, get_or, sum, Option, Some, None, refl, sym, ap, subst, ◌∙◌, arith, inl, inr, add-one}
use Rattle.std.specs.Prelude.{IfSome}
use Rattle.std.specs.List.Sorted.{IsStrictlyIncreasing}
use Rattle.std.proofs.lemmas.Bool.{cases_lt}
use Rattle.std.proofs.lemmas.List.{get_or_past, get_or_default, get_or-replicate, length-replicate, take_all}
use Rattle.std.proofs.lemmas.List.Elements.{All-weaker}
use Rattle.std.proofs.lemmas.List.Folds.{sum_by-replicate}
use Rattle.std.proofs.lemmas.List.Sums.{sum_by_more, sum_by_more_le, get_or-le-sum_by, count_by-le-length, sum_by-le}
use Rattle.grid_quantiser.specs.declared.axis.Axis.{Axis}
use Rattle.grid_quantiser.specs.declared.boxes.CellBox.{CellBox}
use Rattle.grid_quantiser.specs.Axes.{cells_of, AreAxes}
use Rattle.grid_quantiser.specs.CellBoxes.{cells_between}
use Rattle.game_core.specs.Counts.{times}
use Rattle.edge_rows.specs.Rows.{Filling, row_at, empty_rows, slots_left}
use Rattle.edge_rows.proofs.Laid.{written-ge}
use Rattle.successor_box.specs.SuccessorBoxes.{cells_in}
use Rattle.source_lists.specs.declared.cell_ranges.CellRange.{CellRange}
use Rattle.source_lists.specs.inside.CellRanges.{LiesIn, Misses, range_at, range_start, AreRangesOf}
use Rattle.source_lists.specs.inside.Intakes.{IsIntake, AreAdded}
use Rattle.plant_game.specs.BoxGame.{IsBox, edges_of}
use Rattle.source_lists.specs.SourceLists.{sources_among}
use Rattle.source_lists.specs.inside.BandRows.{AreRowsAmong, AreBandRows}
use Rattle.source_lists.specs.inside.Tallies.{AreCounted, CountsFit, ArePut, HasCapacityFor, slots_in, slots_of, AreCountsAmong, CountsSoFar}
use Rattle.plant_game.proofs.BoxGames.{box_cells}
use Rattle.source_lists.proofs.BelowBoxes.{cells_lie_between_corners}
use Rattle.source_lists.proofs.BandSlots.{slots-times, slots-length, slots-none}
use Rattle.source_lists.proofs.LeadingPairs.{sources_more, count_more, count_rises}
use Rattle.source_lists.proofs.Tallying.{by_cell}

-- a box that is read is the one that is kept there
pub kept_box : (boxes : List (Option CellBox)) (k : ℕ) (read kept : Option CellBox) → read ≡ kept → kept ≡ get_or boxes k kept → k < length boxes → read ≡ get_or boxes k None
kept_box boxes k read kept same is below = same ∙ is ∙ get_or_default boxes k kept None below

-- a box in a range that has no cell of a band has none either
none_inside : (axes : List Axis) (from len : ℕ) (range : CellRange) (b : Option CellBox) → AreAxes axes → IsBox axes b → Misses from len range → LiesIn range b → slots_in from len (cells_in axes b) ≡ []
none_inside axes from len range None grid box misses lies = refl
none_inside axes from len range (Some b) grid box misses lies =
    let all = cells_lie_between_corners axes b.first b.last grid box in
    slots-none from len (cells_between axes b.first b.last) (λ k d lt low high.
    let between = all k d lt in
    elim misses [ inl before ↦ omega (arith, before, lies.1, between.1, low) | inr past ↦ omega (arith, past, lies.0, between.0, high) ])

pub none_reached : (axes : List Axis) (from len : ℕ) (b : Option CellBox) → AreAxes axes → IsBox axes b → IfSome b (λ (b : CellBox). Misses from len (record { first = b.first; last = b.last })) → slots_in from len (cells_in axes b) ≡ []
none_reached axes from len None grid box misses = refl
none_reached axes from len (Some b) grid box misses = none_inside axes from len (record { first = b.first; last = b.last }) (Some b) grid box misses (omega arith, omega arith)

-- a count is within the sum
count_within : (counts : List ℕ) (c : ℕ) → get_or counts c 0 ≤ sum counts
count_within counts c =
    elim (cases_lt c (length counts)) [ inl below ↦ get_or-le-sum_by (λ n. n) counts c 0 below | inr past ↦ omega (arith, get_or_past counts c 0 past) ]

module _ (axes : List Axis) (boxes : List (Option CellBox)) (grid : AreAxes axes) (ordered : All (IsBox axes) boxes) (k : ℕ) (below : k < length boxes) where
  abbrev cells : List ℕ
  cells = cells_in axes (get_or boxes k None)

  pub box_here : IsBox axes (get_or boxes k None)
  box_here = ordered k None below

  rising : IsStrictlyIncreasing cells
  rising = (box_cells axes (get_or boxes k None) grid box_here).rising

  module _ (from len : ℕ) where
    abbrev slots : List ℕ
    slots = slots_in from len cells

    pub count_capacity : (counts : List ℕ) → CountsSoFar axes boxes from len k counts → edges_of axes boxes ≤ 2 ^ 25 → CountsFit counts slots
    count_capacity counts h few = λ i.
        omega (arith, count_within counts i, h.total, count_by-le-length (λ x. x == i) slots, slots-length from len cells, sum_by_more_le (λ b. length (cells_in axes b)) boxes k None below, few)

    pub counts_more : (counts after : List ℕ) → CountsSoFar axes boxes from len k counts → AreCounted counts after slots → CountsSoFar axes boxes from len (k + 1) after
    counts_more counts after h more = record {
      counted = record {
        one_each = more.long ∙ h.counted.one_each;
        each = λ i inside. omega (arith, more.each i, h.counted.each i inside, slots-times from len i cells inside, count_more axes boxes (from + i) k rising);
      };
      total = omega (arith, more.total, h.total, slots-length from len cells, sum_by_more (λ b. length (cells_in axes b)) boxes k None below);
    }

    pub row_capacity : (f : Filling) → AreRowsAmong axes boxes from len k f.rows → AreCountsAmong axes boxes from len (length boxes) f.lengths → HasCapacityFor f slots
    row_capacity f h counts = λ i inside.
        let slot : i < len = omega (arith, inside, h.one_each) in
        rw (counts.each i slot)
        (omega (arith, ap length (h.each i slot), slots-times from len i cells slot, count_more axes boxes (from + i) k rising, count_rises axes boxes (from + i) (k + 1) (length boxes) (omega arith)))

    pub rows_more : (f after : Filling) → AreRowsAmong axes boxes from len k f.rows → ArePut k f after slots → AreRowsAmong axes boxes from len (k + 1) after.rows
    rows_more f after h put = record {
      one_each = put.long ∙ h.one_each;
      each = λ i inside.
          put.each i (rw h.one_each inside)
          ∙ ap (λ (row : List ℕ). row ++ replicate (times i slots) k) (h.each i inside)
          ∙ ap (λ (n : ℕ). sources_among axes boxes k (from + i) ++ replicate n k) (slots-times from len i cells inside)
          ∙ sym (sources_more axes boxes (from + i) k rising);
    }

-- ---- pairs that are added one after another

module _ {A : Type 0} {slots : A → ℕ} {HasRoomFor : A → List ℕ → Type 0} {IsAdded : ℕ → A → A → List ℕ → Type 0} (lawful : IsIntake A slots HasRoomFor IsAdded) (slots_at : ℕ → List ℕ) (before : A) where
  pub slots_kept : (n : ℕ) (after : A) → AreAdded IsAdded slots_at n before after → slots after ≡ slots before
  slots_kept zero after added = ap slots added
  slots_kept (suc n) after added = lawful.slots_stay n added.0 after (slots_at n) added.2 ∙ slots_kept n added.0 added.1

  -- pairs that have no slot need not be added
  pub added_none : (now : A) (n end : ℕ) → n ≤ end → ((pair : ℕ) → n ≤ pair → pair < end → slots_at pair ≡ []) → AreAdded IsAdded slots_at n before now → AreAdded IsAdded slots_at end before now
  added_none now n zero le none added = let same : n ≡ 0 = omega (arith, le) in subst (λ (m : ℕ). AreAdded IsAdded slots_at m before now) same added
  added_none now n (suc end) le none added = by_cell n (suc end)
      (λ same. subst (λ (m : ℕ). AreAdded IsAdded slots_at m before now) same added)
      (λ apart.
      let sooner : n ≤ end = omega (arith, le, apart) in
      let rest = added_none now n end sooner (λ pair low high. none pair low (omega (arith, high))) added in
      (now, rest, subst (IsAdded end now now) (sym (none end sooner (omega arith))) (lawful.none end now)))

-- the pairs of a range that misses a band have no slot there
pub none_here : (axes : List Axis) (boxes : List (Option CellBox)) (ranges : List CellRange) → AreAxes axes → All (IsBox axes) boxes → AreRangesOf boxes ranges → (from len k : ℕ) → k < length ranges → Misses from len (range_at ranges k) →
    (pair : ℕ) → range_start boxes k ≤ pair → pair < range_start boxes (k + 1) → slots_of axes boxes from len pair ≡ []
none_here axes boxes ranges grid ordered are from len k known misses pair low high =
    let inside : pair < length boxes = omega (arith, high) in
    let number : pair / 256 ≡ k = omega (arith, low, high) in
    none_inside axes from len (range_at ranges k) (get_or boxes pair None) grid (ordered pair None inside) misses (are k known pair inside number)

module _ (axes : List Axis) (boxes : List (Option CellBox)) (grid : AreAxes axes) (ordered : All (IsBox axes) boxes) (from len : ℕ) where
  -- counts that begin at 0
  module _ {A : Type 0} (counts : A → List ℕ) (before : A) (zeros : counts before ≡ replicate len 0) where
    abbrev AreAddedTo : ℕ → A → Type 0
    AreAddedTo n after = AreAdded (λ pair v w cells. AreCounted (counts v) (counts w) cells) (slots_of axes boxes from len) n before after

    pub counted_so_far : (n : ℕ) (after : A) → n ≤ length boxes → AreAddedTo n after → CountsSoFar axes boxes from len n (counts after)
    counted_so_far zero after le added =
        rw (added, zeros) (record {
          counted = record { one_each = length-replicate len 0; each = λ i inside. get_or-replicate len i 0 0 inside };
          total = omega (arith, sum_by-replicate (λ n. n) len 0);
        })
    counted_so_far (suc n) after le added =
        let sooner = counted_so_far n added.0 (omega (arith, le)) added.1 in
        rw (← add-one n) (counts_more axes boxes grid ordered n (omega (arith, le)) from len (counts added.0) (counts after) sooner added.2)

    pub counts_have_room : edges_of axes boxes ≤ 2 ^ 25 → (pair : ℕ) (now : A) → pair < length boxes → AreAddedTo pair now → CountsFit (counts now) (slots_of axes boxes from len pair)
    counts_have_room few pair now below added = count_capacity axes boxes grid ordered pair below from len (counts now) (counted_so_far pair now (omega (arith, below)) added) few

    pub all_counted : (after : A) (read : List ℕ) → read ≡ counts after → AreAddedTo (length boxes) after → AreCountsAmong axes boxes from len (length boxes) read × (sum read ≤ edges_of axes boxes)
    all_counted after read is added =
        let h = counted_so_far (length boxes) after (omega arith) added in
        rw is (h.counted, omega (arith, h.total, ap (edges_of axes) (take_all (length boxes) boxes (omega arith))))

  -- empty rows, each as long as its cell's count
  module _ (before : Filling) (lengths : List ℕ) (long : before.lengths ≡ lengths) (empty : before.rows ≡ empty_rows lengths) (counted : AreCountsAmong axes boxes from len (length boxes) lengths) where
    abbrev ArePutIn : ℕ → Filling → Type 0
    ArePutIn n after = AreAdded ArePut (slots_of axes boxes from len) n before after

    pub put_so_far : (n : ℕ) (after : Filling) → n ≤ length boxes → ArePutIn n after → (after.lengths ≡ lengths) × AreRowsAmong axes boxes from len n after.rows
    put_so_far zero after le added =
        rw (added, empty, counted.one_each) (long, record { one_each = length-replicate len []; each = λ i inside. get_or-replicate len i [] [] inside })
    put_so_far (suc n) after le added =
        let sooner = put_so_far n added.0 (omega (arith, le)) added.1 in
        (added.2.lengths ∙ sooner.0, rw (← add-one n) (rows_more axes boxes grid ordered n (omega (arith, le)) from len added.0 after sooner.1 added.2))

    pub rows_have_room : (pair : ℕ) (now : Filling) → pair < length boxes → ArePutIn pair now → HasCapacityFor now (slots_of axes boxes from len pair)
    rows_have_room pair now below added =
        let so_far = put_so_far pair now (omega (arith, below)) added in row_capacity axes boxes grid ordered pair below from len now so_far.1 (rw so_far.0 counted)

    -- at last no row has a slot left
    pub rows_are_full : (after : Filling) → ArePutIn (length boxes) after → AreBandRows axes boxes from len after.rows × (slots_left after ≡ 0)
    rows_are_full after added =
        let put = put_so_far (length boxes) after (omega arith) added in
        let full : (r : ℕ) → r < length after.lengths → length (row_at after.rows r) ≡ get_or after.lengths r 0 = λ r lt.
        let inside : r < len = omega (arith, lt, ap length put.0, counted.one_each) in
        ap length (put.1.each r inside) ∙ sym (counted.each r inside) ∙ ap (λ (lengths : List ℕ). get_or lengths r 0) (sym put.0)
        in
        (put.1, omega (arith, written-ge after.rows after.lengths full))

-- the number of edges fits
pub edges_fit : (axes : List Axis) (boxes : List (Option CellBox)) → AreAxes axes → All (IsBox axes) boxes → cells_of axes ≤ 2 ^ 20 → length boxes ≤ 2 ^ 22 → edges_of axes boxes < 2 ^ 64
edges_fit axes boxes grid ordered cells pairs =
    let each = All-weaker (IsBox axes) (λ b. length (cells_in axes b) ≤ 2 ^ 20) (λ b box. let few = (box_cells axes b grid box).few in omega (arith, few, cells)) boxes ordered in
    omega (arith, sum_by-le (λ b. length (cells_in axes b)) (2 ^ 20) boxes each, pairs)
