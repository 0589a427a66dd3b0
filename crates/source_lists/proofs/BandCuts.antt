-- Where bands of cells begin, and the groups in each.
use Rattle.std.proofs.Common.{◌≡◌, ℕ, zero, suc, ◌+◌, ◌-◌, ◌*◌, ◌^◌, ◌<◌, ◌≤◌, List, length, get_or, Option, Some, None, ap, ◌∙◌, arith}
use Rattle.std.specs.Prelude.{IfSome}
use Rattle.std.specs.Int.{div_ceil}
use Rattle.std.specs.List.{All}
use Rattle.std.proofs.lemmas.Grind.{div_ceil_times, get_or_default_zero}
use Rattle.std.proofs.Math.Nat.{mul-le-mul_right}
use Rattle.grid_quantiser.specs.declared.axis.Axis.{Axis}
use Rattle.grid_quantiser.specs.declared.boxes.CellBox.{CellBox}
use Rattle.grid_quantiser.specs.Axes.{cells_of, AreAxes}
use Rattle.grid_quantiser.proofs.Suffixes.{some_cells}
use Rattle.source_lists.specs.declared.cuts.Cuts.{Cuts}
use Rattle.source_lists.specs.inside.BandCuts.{RiseTo, AreCutsOf, HasLoadIn, band_start}
use Rattle.source_lists.specs.Fans.{FanIsKnown, AreFansOf}
use Rattle.plant_game.specs.BoxGame.{IsBox}
use Rattle.source_lists.proofs.CountedFans.{last_below}

-- ---- cuts

up_to : (end : ℕ) (cuts : List ℕ) → RiseTo end cuts → (d k : ℕ) → k + d + 1 ≡ length cuts → get_or cuts k 0 ≤ end
up_to end cuts r zero k is = let here : length cuts - 1 ≡ k = omega (arith, is) in omega (arith, r.last, ap (λ (n : ℕ). get_or cuts n 0) here)
up_to end cuts r (suc d) k is = omega (arith, r.rising k (omega (arith, is)), up_to end cuts r d (k + 1) (omega (arith, is)))

-- no number is past the last
at_most : (end : ℕ) (cuts : List ℕ) → RiseTo end cuts → (k : ℕ) → k < length cuts → get_or cuts k 0 ≤ end
at_most end cuts r k lt = up_to end cuts r (length cuts - 1 - k) k (omega (arith, lt))

-- The cuts that a loop over the groups has made.
pub record CutsSoFar (group bands : ℕ) (cuts : List ℕ) : Type 0 where
  pub end : ℕ
  pub below : end < group
  pub rise : RiseTo end cuts
  pub few : length cuts ≤ bands

-- ---- bands

-- each group begins at a cell
group_begins : (cells size g : ℕ) → 0 < size → g < div_ceil cells size → g * size < cells
group_begins cells size g some below =
    let more : g + 1 ≤ div_ceil cells size = omega (arith, below) in
    omega (arith, (div_ceil_times cells size some).1, mul-le-mul_right size more)

-- A band begins at a cell, and ends no sooner.
pub record IsParted (cells : ℕ) (cuts : Cuts) (k : ℕ) : Type 0 where
  pub starts : band_start cuts k < cells
  pub ends : band_start cuts k ≤ band_start cuts (k + 1)
  pub fits : band_start cuts (k + 1) < 2 ^ 32

pub is_parted : (cells : ℕ) (cuts : Cuts) (k : ℕ) → AreCutsOf cells cuts → cells ≤ 2 ^ 20 → k + 1 < length cuts.each.items → IsParted cells cuts k
is_parted cells cuts k are limit lt =
    let here : ℕ = get_or cuts.each.items k 0 in
    let next : ℕ = get_or cuts.each.items (k + 1) 0 in
    let rises : here < next = are.parted.rising k lt in
    let inside : next ≤ div_ceil cells cuts.size = at_most (div_ceil cells cuts.size) cuts.each.items are.parted (k + 1) lt in
    let later : here ≤ next = omega (arith, rises) in
    record {
      starts = group_begins cells cuts.size here are.some_size (omega (arith, rises, inside));
      ends = mul-le-mul_right cuts.size later;
      fits = omega (arith, (div_ceil_times cells cuts.size are.some_size).1, are.narrow, limit, mul-le-mul_right cuts.size inside);
    }

-- where the band begins whose cut is read
pub start_read : (cuts : Cuts) (k x : ℕ) → k < length cuts.each.items → x ≡ get_or cuts.each.items k x → x * cuts.size ≡ band_start cuts k
start_read cuts k x lt is = ap (λ (n : ℕ). n * cuts.size) (is ∙ get_or_default_zero cuts.each.items k x lt)

-- ---- loads

has_load : (axes : List Axis) (fans : List ℕ) (b : Option CellBox) → AreAxes axes → IsBox axes b → FanIsKnown axes fans b → IfSome b (HasLoadIn fans (cells_of axes))
has_load axes fans None grid box fan = tt
has_load axes fans (Some b) grid box fan = record { ordered = fan.ordered; counted = fan.within; within = last_below axes b.first b.last grid.some_state (some_cells axes grid.each) box }

-- each box has a load
pub have_loads : (axes : List Axis) (boxes : List (Option CellBox)) (fans : List ℕ) → AreAxes axes → All (IsBox axes) boxes → AreFansOf axes boxes fans → All (λ b. IfSome b (HasLoadIn fans (cells_of axes))) boxes
have_loads axes boxes fans grid ordered counted = λ k d lt. has_load axes fans (get_or boxes k d) grid (ordered k d lt) (counted.each k d lt)
