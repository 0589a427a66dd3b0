-- Whether a cell is between two corners.
use Rattle.std.proofs.Common.{◌≡◌, ℕ, zero, suc, ◌+◌, ◌-◌, ◌*◌, ◌/◌, ◌%◌, ◌<◌, ◌≤◌, arith, ap, sym, ◌∙◌, List, [], ◌∷◌, length, get_or, inl, inr}
use Rattle.std.specs.List.{All, Contains}
use Rattle.std.specs.List.Sorted.{IsStrictlyIncreasing}
use Rattle.std.proofs.lemmas.Bool.{cases_lt}
use Rattle.std.proofs.lemmas.List.{get_or_default}
use Rattle.std.proofs.lemmas.List.Elements.{All-tail}
use Rattle.std.proofs.lemmas.Nat.{div-add-mod', div-mul-add, mod-mul-add, mod_below, div_below, mul-add-lt}
use Rattle.std.proofs.Math.Nat.{mul_comm, mul-le-mul_right, add-mul, add_assoc}
use Rattle.grid_quantiser.specs.declared.axis.Axis.{Axis}
use Rattle.mixed_radix.specs.Radix.{digits}
use Rattle.grid_quantiser.specs.Axes.{IsAxis, counts_of, cells_of}
use Rattle.grid_quantiser.specs.CellBoxes.{IsCellBox, cells_between}
use Rattle.grid_quantiser.proofs.General.{blocks, length-blocks, get_or-blocks}
use Rattle.grid_quantiser.proofs.Suffixes.{some_cells}
use Rattle.grid_quantiser.proofs.BoxCells.{between_some, between_below}

-- in each state the index of the cell is from that of the first corner to that of the last
abbrev pub IsBetween : List Axis → ℕ → ℕ → ℕ → Type 0
IsBetween [] f l c = Unit {0}
IsBetween (a ∷ axes) f l c =
    (f / cells_of axes ≤ c / cells_of axes) × (c / cells_of axes ≤ l / cells_of axes) × IsBetween axes (f % cells_of axes) (l % cells_of axes) (c % cells_of axes)

pub between_from_contains : (axes : List Axis) (f l c : ℕ) → All IsAxis axes → IsCellBox axes f l → Contains (cells_between axes f l) c → IsBetween axes f l c
between_from_contains [] f l c each box has = tt
between_from_contains (a ∷ axes) f l c each box has =
    let n : ℕ = cells_of axes in
    let part : List ℕ = cells_between axes (f % n) (l % n) in
    let m : ℕ = length part in
    let extent : ℕ = suc (l / n) - f / n in
    let k : ℕ = has.0 in
    let later : All IsAxis axes = All-tail IsAxis a axes each in
    let some : 0 < m = between_some axes (f % n) (l % n) box.2 in
    let within : k < extent * m = omega (arith, has.1, length-blocks n part (f / n) extent) in
    let inner : get_or part (k % m) 0 < n = between_below axes (f % n) (l % n) (k % m) later box.2 (mod_below k m some) in
    let is : (f / n + k / m) * n + get_or part (k % m) 0 ≡ c =
    sym (get_or-blocks n part (f / n) extent k within) ∙ get_or_default (blocks n part (f / n) extent) k 0 c has.1 ∙ has.2
    in
    let index : f / n + k / m ≡ c / n = sym (div-mul-add (f / n + k / m) n (get_or part (k % m) 0) inner) ∙ ap (λ v. v / n) is in
    let rest : get_or part (k % m) 0 ≡ c % n = sym (mod-mul-add (f / n + k / m) n (get_or part (k % m) 0) inner) ∙ ap (λ v. v % n) is in
    let row : k / m < extent = div_below k m extent some within in
    let short : k % m < m = mod_below k m some in
    (omega (arith, index), omega (arith, index, row, box.0), between_from_contains axes (f % n) (l % n) (c % n) later box.2 (k % m, short, get_or_default part (k % m) (c % n) 0 short ∙ rest))

-- a cell between two corners lies there by its number
pub between_by_coordinate : (axes : List Axis) (f l c : ℕ) → 1 ≤ length axes → IsBetween axes f l c → (f ≤ c) × (c ≤ l)
between_by_coordinate [] f l c some between = absurd (omega (arith, some))
between_by_coordinate (a ∷ []) f l c some between = (omega (arith, between.0), omega (arith, between.1))
between_by_coordinate (a ∷ b ∷ axes) f l c some between =
    let n : ℕ = cells_of (b ∷ axes) in
    let rest = between_by_coordinate (b ∷ axes) (f % n) (l % n) (c % n) (omega arith) between.2 in (
      below f c n between.0 rest.0,
      below c l n between.1 rest.1,
    )
  where
    below : (x y n : ℕ) → x / n ≤ y / n → x % n ≤ y % n → x ≤ y
    below x y n quotient rest = omega (arith, div-add-mod' x n, div-add-mod' y n, mul-le-mul_right n quotient)

pub contains_from_between : (axes : List Axis) (f l c : ℕ) → All IsAxis axes → c < cells_of axes → IsBetween axes f l c → Contains (cells_between axes f l) c
contains_from_between [] f l c each below between =
    let none : 0 ≡ c = omega (arith, below) in (0, omega arith, none)
contains_from_between (a ∷ axes) f l c each below between =
    let n : ℕ = cells_of axes in
    let part : List ℕ = cells_between axes (f % n) (l % n) in
    let m : ℕ = length part in
    let extent : ℕ = suc (l / n) - f / n in
    let later : All IsAxis axes = All-tail IsAxis a axes each in
    let some : 0 < n = some_cells axes later in
    let inner = contains_from_between axes (f % n) (l % n) (c % n) later (mod_below c n some) between.2 in
    let j : ℕ = inner.0 in
    let steps : ℕ = c / n - f / n in
    let k : ℕ = steps * m + j in
    let row : steps < extent = omega (arith, between.0, between.1) in
    let within : k < extent * m = omega (arith, mul-add-lt steps m j extent row inner.1, mul_comm m extent) in
    let quotient : k / m ≡ steps = div-mul-add steps m j inner.1 in
    let remainder : k % m ≡ j = mod-mul-add steps m j inner.1 in
    let index : f / n + steps ≡ c / n = omega (arith, between.0) in
    let long : k < length (cells_between (a ∷ axes) f l) = omega (arith, within, length-blocks n part (f / n) extent) in (
      k,
      long,
      get_or_default (blocks n part (f / n) extent) k c 0 long
          ∙ get_or-blocks n part (f / n) extent k within
          ∙ ap (λ v. (f / n + v) * n + get_or part (k % m) 0) quotient
          ∙ ap (λ v. (f / n + steps) * n + get_or part v 0) remainder
          ∙ ap (λ v. v * n + get_or part j 0) index
          ∙ ap (λ v. c / n * n + v) (get_or_default part j 0 (c % n) inner.1 ∙ inner.2)
          ∙ div-add-mod' c n,
    )

pub rising_between : (axes : List Axis) (f l : ℕ) → All IsAxis axes → IsCellBox axes f l → IsStrictlyIncreasing (cells_between axes f l)
rising_between [] f l each box = λ k within. absurd (omega (arith, within))
rising_between (a ∷ axes) f l each box = λ k within.
    let n : ℕ = cells_of axes in
    let part : List ℕ = cells_between axes (f % n) (l % n) in
    let m : ℕ = length part in
    let extent : ℕ = suc (l / n) - f / n in
    let later : All IsAxis axes = All-tail IsAxis a axes each in
    let some : 0 < m = between_some axes (f % n) (l % n) box.2 in
    let short : k + 1 < extent * m = omega (arith, within, length-blocks n part (f / n) extent) in
    let short_k : k < extent * m = omega (arith, short) in
    let inner : get_or part (k % m) 0 < n = between_below axes (f % n) (l % n) (k % m) later box.2 (mod_below k m some) in
    let split : k + 1 ≡ k / m * m + (k % m + 1) = omega (arith, div-add-mod' k m) in
    elim (cases_lt (k % m + 1) m) [
      | inl same ↦
          let quotient : (k + 1) / m ≡ k / m = ap (λ v. v / m) split ∙ div-mul-add (k / m) m (k % m + 1) same in
          let remainder : (k + 1) % m ≡ k % m + 1 = ap (λ v. v % m) split ∙ mod-mul-add (k / m) m (k % m + 1) same in
          let here : get_or part (k % m) 0 < get_or part (k % m + 1) 0 = rising_between axes (f % n) (l % n) later box.2 (k % m) same in
          rw (get_or-blocks n part (f / n) extent k short_k, get_or-blocks n part (f / n) extent (k + 1) short, quotient, remainder) (omega (arith, here))
      | inr next ↦
          let full : k % m + 1 ≡ m = omega (arith, next, mod_below k m some) in
          let whole : k + 1 ≡ (k / m + 1) * m + 0 = omega (arith, split, full, add-mul (k / m) 1 m) in
          let quotient : (k + 1) / m ≡ k / m + 1 = ap (λ v. v / m) whole ∙ div-mul-add (k / m + 1) m 0 some in
          let row : (f / n + (k / m + 1)) * n ≡ (f / n + k / m) * n + n =
          omega (arith, add-mul (f / n + k / m) 1 n, ap (λ v. v * n) (add_assoc (f / n) (k / m) 1))
          in
          rw (get_or-blocks n part (f / n) extent k short_k, get_or-blocks n part (f / n) extent (k + 1) short, quotient) (omega (arith, row, inner))
    ]

-- between, index by index
pub between_each : (axes : List Axis) (f l c k : ℕ) → IsBetween axes f l c → k < length axes →
    (get_or (digits (counts_of axes) f) k 0 ≤ get_or (digits (counts_of axes) c) k 0) × (get_or (digits (counts_of axes) c) k 0 ≤ get_or (digits (counts_of axes) l) k 0)
between_each [] f l c k between within = absurd (omega (arith, within))
between_each (a ∷ axes) f l c zero between within = (between.0, between.1)
between_each (a ∷ axes) f l c (suc k) between within = between_each axes (f % cells_of axes) (l % cells_of axes) (c % cells_of axes) k between.2 (omega (arith, within))

pub between_from_each : (axes : List Axis) (f l c : ℕ) →
    ((k : ℕ) → k < length axes → (get_or (digits (counts_of axes) f) k 0 ≤ get_or (digits (counts_of axes) c) k 0) × (get_or (digits (counts_of axes) c) k 0 ≤ get_or (digits (counts_of axes) l) k 0)) → IsBetween axes f l c
between_from_each [] f l c each = tt
between_from_each (a ∷ axes) f l c each =
    let here = each 0 (omega arith) in
    (here.0, here.1, between_from_each axes (f % cells_of axes) (l % cells_of axes) (c % cells_of axes) (λ k within. each (suc k) (omega (arith, within))))
