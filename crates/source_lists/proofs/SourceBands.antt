-- The bands of all cells.
use Rattle.std.proofs.Common.{◌≡◌, ℕ, ◌+◌, ◌/◌, ◌<◌, ◌≤◌, List, [], ◌∷◌, length, map, get_or, Option, ap, subst, ◌∙◌, arith}
use Rattle.std.specs.Prelude.{Ok, Err, IfOk, MatchResult}
use Rattle.std.specs.declared.result.Result.{Result}
use Rattle.std.specs.List.{AllZip, range_with_len}
use Rattle.std.specs.Int.{div_ceil}
use Rattle.std.proofs.lemmas.Grind.{div_ceil_times}
use Rattle.std.proofs.lemmas.Nat.{div-add-mod', div_below, mod_below}
use Rattle.std.proofs.Math.Nat.{mul-le-mul_right}
use Rattle.grid_quantiser.specs.declared.axis.Axis.{Axis}
use Rattle.grid_quantiser.specs.declared.boxes.CellBox.{CellBox}
use Rattle.grid_quantiser.specs.Axes.{cells_of}
use Rattle.edge_rows.specs.Rows.{row_at}
use Rattle.source_lists.specs.declared.cell_ranges.CellRange.{CellRange}
use Rattle.source_lists.specs.declared.cuts.Cuts.{Cuts}
use Rattle.source_lists.specs.declared.cuts.Group.{Group}
use Rattle.source_lists.specs.inside.BandCuts.{AreCutsOf, AreGroupsTo, IsGroupIn, band_start}
use Rattle.source_lists.specs.SourceLists.{group_at, AreSourceBands, HasRow, band_of, slot_in_band, sources_among}
use Rattle.source_lists.specs.inside.CellRanges.{IsRangeOf, AreRangesOf}
use Rattle.source_lists.specs.inside.BandRows.{HasBandRows, HoldBands}
use Rattle.source_lists.proofs.Mapped.{mapped_at, mapped_long}

-- where all calls gave something
pub all_ok : {X Y : Type 0} (E : Type 0) (P : X → Y → Type 0) (xs : List X) (ys : List Y) → AllZip (λ (x : X) (r : Result Y E). IfOk r (P x)) xs (map Ok ys) → AllZip P xs ys
all_ok E P [] [] each = tt
all_ok E P [] (y ∷ ys) each = absurd each
all_ok E P (x ∷ xs) [] each = absurd each
all_ok E P (x ∷ xs) (y ∷ ys) each = (each.0, all_ok E P xs ys each.1)

-- where a call for each band gave something, that is the rows of the bands
pub hold_bands : {V E : Type 0} (items : V → List (List (List ℕ))) (F : E → Type 0) (axes : List Axis) (boxes : List (Option CellBox)) (cuts : Cuts) (n : ℕ) (rs : List (Result (List (List ℕ)) E)) (r : Result V E) → n + 1 ≡ length cuts.each.items →
    AllZip (λ k r. IfOk r (HasBandRows axes boxes cuts k)) (range_with_len 0 n) rs → MatchResult r (λ v. (bands : List (List (List ℕ))) × (rs ≡ map Ok bands) × (items v ≡ bands)) F → IfOk r (λ v. HoldBands axes boxes cuts (items v))
hold_bands items F axes boxes cuts n rs (Err e) bands each h = tt
hold_bands {E = E} items F axes boxes cuts n rs (Ok v) bands each h =
    let Held : ℕ → List (List ℕ) → Type 0 = HasBandRows axes boxes cuts in
    let by_call = subst (λ (rs : List (Result (List (List ℕ)) E)). AllZip (λ (k : ℕ) (r : Result (List (List ℕ)) E). IfOk r (Held k)) (range_with_len 0 n) rs) h.1 each in
    let by_band = all_ok E Held (range_with_len 0 n) h.0 by_call in
    rw h.2 (record { one_each = ap (λ (m : ℕ). m + 1) (mapped_long Held n h.0 by_band) ∙ bands; each = λ k lt. mapped_at Held n h.0 by_band k [] (omega (arith, lt, mapped_long Held n h.0 by_band)) })

-- where a call for each number gave the range of its pairs, these are ranges of the boxes
pub hold_ranges : {V E : Type 0} (items : V → List CellRange) (boxes : List (Option CellBox)) (count : ℕ) (r : Result V E) (Gives : List CellRange → Type 0) →
    ((ranges : List CellRange) → Gives ranges → AllZip (IsRangeOf boxes) (range_with_len 0 count) ranges) →
    IfOk r (λ v. (ranges : List CellRange) × Gives ranges × (items v ≡ ranges)) → IfOk r (λ v. AreRangesOf boxes (items v))
hold_ranges items boxes count (Err e) Gives given h = tt
hold_ranges items boxes count (Ok v) Gives given h =
    let each = given h.0 h.1 in
    rw h.2 (λ k lt. mapped_at (IsRangeOf boxes) count h.0 each k _ (omega (arith, lt, mapped_long (IsRangeOf boxes) count h.0 each)))

-- each cell lies in a group
group_of_cell : (cells size c : ℕ) → 0 < size → c < cells → c / size < div_ceil cells size
group_of_cell cells size c some below = div_below c size (div_ceil cells size) some (omega (arith, below, (div_ceil_times cells size some).0))

module _ (axes : List Axis) (boxes : List (Option CellBox)) (cuts : Cuts) (groups : List Group) (bands : List (List (List ℕ))) (cut : AreCutsOf (cells_of axes) cuts)
    (grouped : AreGroupsTo (div_ceil (cells_of axes) cuts.size) cuts groups) (filled : HoldBands axes boxes cuts bands) (c : ℕ) (cell : c < cells_of axes) where
  abbrev g : ℕ
  g = c / cuts.size

  abbrev group : Group
  group = group_at groups g

  is_in : IsGroupIn cuts g group
  is_in = grouped.each g (group_of_cell (cells_of axes) cuts.size c cut.some_size cell)

  rows : HasBandRows axes boxes cuts group.band (band_of cuts.size groups bands c)
  rows = filled.each group.band (omega (arith, is_in.band, filled.one_each))

  starts : group.from ≤ c
  starts = let first = is_in.first in omega (arith, is_in.from, mul-le-mul_right cuts.size first, div-add-mod' c cuts.size)

  short : slot_in_band cuts.size groups c < rows.len
  short =
      let next : g + 1 ≤ get_or cuts.each.items (group.band + 1) 0 = omega (arith, is_in.last) in
      omega (arith, is_in.from, rows.end, starts, mul-le-mul_right cuts.size next, div-add-mod' c cuts.size, mod_below c cuts.size cut.some_size, cell)

  pub has_row : HasRow cuts.size groups bands c
  has_row = record {
    some_size = cut.some_size;
    group = omega (arith, grouped.one_each, group_of_cell (cells_of axes) cuts.size c cut.some_size cell);
    from = starts;
    band = omega (arith, is_in.band, filled.one_each);
    slot = omega (arith, short, rows.rows_are.one_each);
  }

  pub row_is : row_at (band_of cuts.size groups bands c) (slot_in_band cuts.size groups c) ≡ sources_among axes boxes (length boxes) c
  row_is =
      let back : band_start cuts group.band + slot_in_band cuts.size groups c ≡ c = omega (arith, is_in.from, starts) in
      rows.rows_are.each (slot_in_band cuts.size groups c) short ∙ ap (sources_among axes boxes (length boxes)) back

-- each cell has its row
pub are_bands : (axes : List Axis) (boxes : List (Option CellBox)) (cuts : Cuts) (groups : List Group) (bands : List (List (List ℕ))) → AreCutsOf (cells_of axes) cuts →
    AreGroupsTo (div_ceil (cells_of axes) cuts.size) cuts groups → HoldBands axes boxes cuts bands → AreSourceBands axes boxes cuts.size groups bands
are_bands axes boxes cuts groups bands cut grouped filled = record {
  inside = has_row axes boxes cuts groups bands cut grouped filled;
  each = row_is axes boxes cuts groups bands cut grouped filled;
}
