-- The boxes of cells, some cells after others.
use Rattle.std.proofs.Common.{◌≡◌, ℕ, ◌+◌, ◌-◌, ◌*◌, ◌/◌, ◌%◌, ◌^◌, ◌<◌, ◌≤◌, List, Option, None, length, min, take, drop, get_or, sym, ap, subst, ◌∙◌, arith, inl, inr}
use borrow.Rule.Slice.PartMut.{put_mid}
use Rattle.std.proofs.Math.Nat.{add-mul, min-le_left, min-le_right}
use Rattle.std.proofs.lemmas.Bool.{cases_lt}
use Rattle.std.proofs.lemmas.Nat.{mul-le, mod_below, div-mul-add}
use Rattle.grid_quantiser.specs.declared.boxes.CellBox.{CellBox}
use Rattle.grid_quantiser.specs.Axes.{cells_of}
use Rattle.plant_record.specs.Description.{Description, axes_of, vectors_of}
use Rattle.plant_record.specs.Limits.{IsWithinLimits}
use Rattle.plant_record.proofs.lemmas.SoundPlants.{sound as sound_plant}
use Rattle.successor_box.specs.SuccessorBoxes.{IsBoxOf}
use Rattle.successor_box.proofs.Middles.{axis_at}
use Rattle.pair_boxes.specs.CellsFrom.{AreBoxesFrom}
use Rattle.pair_boxes.specs.inside.CellLines.{last_state, line_length, AreInLine}
use Rattle.pair_boxes.proofs.WrittenRows.{AreRows, AreWrittenBelow, among, rows_long, rows_written}
use Rattle.base.proofs.Products.{part_fits}

-- the boxes of the cells from one on to another
pub range : (start end v : ℕ) → start < end → end * v - start * v ≡ (end - start) * v
range start end v lt =
    let terms : start + (end - start) ≡ end = omega (arith, lt) in
    omega (arith, add-mul start (end - start) v, ap (λ (n : ℕ). n * v) terms)

-- the cell of an index among the boxes of cells
pub cell_before : (k cells v u : ℕ) → k * v + u < cells * v → k < cells
cell_before k cells v u lt =
    elim (cases_lt k cells) [
      | inl before ↦ before
      | inr past ↦ absurd (omega (arith, lt, mul-le cells v k v past (omega arith)))
    ]

-- how many cells there are
pub cell_count : (boxes n v w : ℕ) → boxes ≡ n * w → v ≡ w → 0 < v → boxes / v ≡ n
cell_count boxes n v w long same some =
    let whole : boxes ≡ n * v + 0 = omega (arith, long, ap (λ (m : ℕ). n * m) same) in
    ap (λ (b : ℕ). b / v) whole ∙ div-mul-add n v 0 some

-- a line has a cell
pub some_line : (p : Description) → IsWithinLimits p → 1 ≤ line_length p
some_line p limits =
    (axis_at p (sound_plant p limits.plant) (last_state p) (omega (arith, limits.plant.some_state))).some_cell

-- Boxes of so many of a plant's cells from one on, as many for each as there are inputs.
pub record AreCellBoxes (p : Description) (c n v boxes : ℕ) : Type 0 where
  pub limits : IsWithinLimits p
  pub within : c + n ≤ cells_of (axes_of p)
  pub long : boxes ≡ n * vectors_of p.inputs
  pub count : v ≡ vectors_of p.inputs
  pub some : 0 < v

module _ {p : Description} {c n v boxes : ℕ} (are : AreCellBoxes p c n v boxes) where
  pub cells_are : boxes / v ≡ n
  cells_are = cell_count boxes n v (vectors_of p.inputs) are.long are.count are.some

  pub long_by : boxes ≡ n * v
  long_by = omega (arith, are.long, ap (λ (m : ℕ). n * m) are.count)

  pub boxes_few : boxes ≤ 2 ^ 22
  boxes_few = omega (arith, are.long, are.limits.pairs, mul-le n (vectors_of p.inputs) (cells_of (axes_of p)) (vectors_of p.inputs) (omega (arith, are.within)) (omega arith))

  -- one of the cells
  pub cell_fits : (k : ℕ) → k < n → (c + k < 2 ^ 20) × (k * v + v ≤ boxes)
  cell_fits k lt = (omega (arith, are.within, are.limits.cells, lt), omega (arith, long_by, part_fits k n v lt))

  -- the cells of a line from one on, to its end or to the last cell
  pub line_piece : (start end line : ℕ) → start < boxes / v → line ≡ line_length p → end ≡ min (boxes / v) (start + line - (c + start) % line) →
      (start < end) × (end ≤ n) × AreInLine p (c + start) (end - start)
  line_piece start end line lt is end_is =
      let below : (c + start) % line < line = mod_below (c + start) line (omega (arith, some_line p are.limits, is)) in
      let low : end ≤ n = omega (arith, end_is, min-le_left (boxes / v) (start + line - (c + start) % line), cells_are) in
      let short : end ≤ start + line - (c + start) % line = omega (arith, end_is, min-le_right (boxes / v) (start + line - (c + start) % line)) in
      let past : start < end = subst (λ (e : ℕ). start < e) (sym end_is) (omega (arith, lt, below)) in (
        past,
        low,
        record {
          some = omega (arith, past);
          within = omega (arith, low, are.within, past);
          row = subst (λ (r : ℕ). (c + start) % r + (end - start) ≤ r) is (omega (arith, below, short, past));
        },
      )

-- ---- boxes of cells, some cells after others

-- the box of a cell, as many from one on, under an input
abbrev pub BoxFrom : Description → ℕ → ℕ → ℕ → Option CellBox → Type 0
BoxFrom p c k u b = IsBoxOf p (c + k) u b

module _ {p : Description} (c : ℕ) {start end at wide : ℕ} {before now : List (Option CellBox)} (rows : AreRows (vectors_of p.inputs) start end at wide (length now)) where
  pub boxes_written : AreWrittenBelow (BoxFrom p c) (vectors_of p.inputs) None start before now → (new : List (Option CellBox)) → length new ≡ length (take wide (drop at now)) → AreBoxesFrom p (c + start) new →
      AreWrittenBelow (BoxFrom p c) (vectors_of p.inputs) None end before (put_mid at wide now new)
  boxes_written so_far new long each =
      let as_long = long ∙ rows_long now rows in
      rows_written now rows so_far new as_long (λ k u lt input.
      subst (λ (cell : ℕ). IsBoxOf p cell u (get_or new (k * vectors_of p.inputs + u) None)) (let e : c + start + k ≡ c + (start + k) = omega arith in e) (each k u input (omega (arith, as_long, among now rows k u lt input))))

pub boxes_from : (p : Description) (c n m : ℕ) (before now : List (Option CellBox)) → AreWrittenBelow (BoxFrom p c) (vectors_of p.inputs) None m before now → length before ≡ n * vectors_of p.inputs → n ≤ m → AreBoxesFrom p c now
boxes_from p c n m before now so_far long all k u input short = so_far.each k u (omega (arith, all, cell_before k n (vectors_of p.inputs) u (omega (arith, short, so_far.long, long)))) input
