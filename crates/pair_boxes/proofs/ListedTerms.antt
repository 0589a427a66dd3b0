-- Terms that are listed, for each own slot of a cell along the axis one slot of an extent after another.
use Rattle.std.proofs.Common.{◌≡◌, ℕ, ◌+◌, ◌*◌, ◌/◌, ◌^◌, ◌<◌, ◌≤◌, List, [], ◌∷◌, ◌++◌, All, Option, None, Bool, true, false, length, get_or, sym, ap, subst, ◌∙◌, arith}
use Rattle.std.specs.Prelude.{if◌then◌else◌}
use Rattle.std.proofs.Math.Nat.{mul_comm, div-mul-le_self}
use Rattle.std.proofs.lemmas.Bool.{cond_both}
use Rattle.std.proofs.lemmas.List.{length-map}
use Rattle.std.proofs.lemmas.List.Elements.{All-append, All-cons}
use Rattle.std.proofs.lemmas.List.Sums.{sum_by-append, sum_by-cons}
use Rattle.std.proofs.lemmas.Nat.{mul-le, mul-add-lt}
use Rattle.grid_quantiser.specs.declared.boxes.CellBox.{CellBox}
use Rattle.grid_quantiser.specs.Axes.{no_axis, cells_of}
use Rattle.grid_quantiser.specs.Indices.{index_along}
use Rattle.grid_quantiser.proofs.OwnIndices.{index_along_below}
use Rattle.plant_record.specs.Description.{Description, axis_of, axes_of, vectors_of}
use Rattle.plant_record.specs.Soundness.{IsSound}
use Rattle.successor_box.specs.PairExtents.{index_in, shifts_along, shifted_by}
use Rattle.successor_box.proofs.Middles.{axis_at}
use Rattle.pair_boxes.specs.declared.digits.Digit.{Digit}
use Rattle.pair_boxes.specs.declared.extent_table.ExtentTable.{ExtentTable}
use Rattle.pair_boxes.specs.inside.ExtentTables.{first_of, IsExtentTableOf}
use Rattle.pair_boxes.specs.inside.Terms.{own_count, IsTermAt, IsTermFrom}
use Rattle.successor_box.proofs.LineValues.{state_slot}
use Rattle.pair_boxes.proofs.TermTables.{HasVariable}

-- ---- how many own indices there are

module _ (p : Description) (sound : IsSound p) (i : ℕ) (lt : i < length p.equations) where
  abbrev count : ℕ
  count = (get_or (axes_of p) i no_axis).count

  some_count : 1 ≤ count
  some_count = (axis_at p sound i (omega (arith, lt, sound.one_each))).some_cell

  pub own_some : 1 ≤ own_count p i
  own_some = cond_both (shifts_along p i) count 1 (λ (n : ℕ). 1 ≤ n) (λ shifts. some_count) (λ fixed. omega arith)

  pub own_few : own_count p i ≤ count
  own_few = cond_both (shifts_along p i) count 1 (λ (n : ℕ). n ≤ count) (λ shifts. omega arith) (λ fixed. some_count)

  pub shifted_among : (c : ℕ) → shifted_by p i c < own_count p i
  shifted_among c = by (shifts_along p i)
    where
      by : (b : Bool) → (if b then index_along (axes_of p) i c else 0) < (if b then count else 1)
      by true = index_along_below (axes_of p) i c sound.axes.each (omega (arith, lt, sound.one_each, length-map p.states axis_of))
      by false = omega arith

  -- ---- the terms of a table's extents

  module _ (t : ExtentTable) (held : IsExtentTableOf p i t) (own : ℕ) (own_is : own ≡ own_count p i) (terms : List (Option CellBox)) (long : length terms ≡ own * length t.extents)
      (each : (o k : ℕ) → o < own → k < length t.extents → IsTermFrom p i o (get_or t.extents k None) (get_or terms (o * length t.extents + k) None)) where
    -- where the cell's own slot is a digit, it brings a pair to its term
    module _ (digits : List Digit) (brings : (c : ℕ) → first_of p digits c ≡ first_of p t.digits.items c + shifted_by p i c * length t.extents) (c u : ℕ) (cell : c < cells_of (axes_of p)) (input : u < vectors_of p.inputs) where
      abbrev here : ℕ
      here = first_of p t.digits.items c + get_or t.inputs.items u 0

      there : shifted_by p i c * length t.extents + here ≡ first_of p digits c + get_or t.inputs.items u 0
      there = omega (arith, brings c)

      shifted : shifted_by p i c < own
      shifted = omega (arith, own_is, shifted_among c)

      pub listed_within : first_of p digits c + get_or t.inputs.items u 0 < length terms
      listed_within = omega (arith, there, long, mul-add-lt (shifted_by p i c) (length t.extents) here own shifted (held.slot c u cell input))

      pub listed_term : IsTermAt p c u i (get_or terms (first_of p digits c + get_or t.inputs.items u 0) None)
      listed_term = subst (λ (n : ℕ). IsTermAt p c u i (get_or terms n None)) there (each (shifted_by p i c) here shifted (held.slot c u cell input) c u (held.extent c u cell input))

-- one digit more
pub own_digit_brings : (p : Description) (i c : ℕ) (ds : List Digit) (d : Digit) (n : ℕ) → i < length p.states → d.variable ≡ i → d.stride ≡ n → shifts_along p i ≡ true → first_of p (ds ++ d ∷ []) c ≡ first_of p ds c + shifted_by p i c * n
own_digit_brings p i c ds d n state is stride shifts =
    let own : shifted_by p i c ≡ index_along (axes_of p) i c = ap (λ (b : Bool). if b then index_along (axes_of p) i c else 0) shifts in
    let slot : index_in p c 0 d.variable ≡ shifted_by p i c = ap (index_in p c 0) is ∙ sym (own ∙ state_slot p c 0 i state) in
    let last : index_in p c 0 d.variable * d.stride ≡ shifted_by p i c * n = ap (λ (k : ℕ). k * d.stride) slot ∙ ap (λ (k : ℕ). shifted_by p i c * k) stride in
    let term : Digit → ℕ = λ (e : Digit). index_in p c 0 e.variable * e.stride in
    omega (arith, sum_by-append term ds (d ∷ []), sum_by-cons term d [], last)

pub no_digit_brings : (p : Description) (i c : ℕ) (ds : List Digit) (n : ℕ) → shifts_along p i ≡ false → first_of p ds c ≡ first_of p ds c + shifted_by p i c * n
no_digit_brings p i c ds n fixed =
    let own : shifted_by p i c ≡ 0 = ap (λ (b : Bool). if b then index_along (axes_of p) i c else 0) fixed in
    omega (arith, ap (λ (k : ℕ). k * n) own)

pub one_variable_more : (p : Description) (i : ℕ) (ds : List Digit) (d : Digit) → i < length p.states → d.variable ≡ i → All (HasVariable p) ds → All (HasVariable p) (ds ++ d ∷ [])
one_variable_more p i ds d state is each = All-append (HasVariable p) ds (d ∷ []) each (All-cons (HasVariable p) d [] (omega (arith, is, state)) (λ k e short. absurd (omega (arith, short))))

-- a term for so many pairs each
pub listed_few : (own extents pairs : ℕ) → pairs ≤ 2 ^ 22 → extents ≤ pairs / 8 / own → own * extents ≤ 2 ^ 22
listed_few own extents pairs few le =
    let eighth : pairs / 8 ≤ pairs = omega arith in
    omega (arith, few, eighth, div-mul-le_self (pairs / 8) own, mul-le extents own (pairs / 8 / own) own le (omega arith), mul_comm own extents)
