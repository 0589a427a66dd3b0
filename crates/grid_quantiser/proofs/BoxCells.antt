-- The cells between two corners.
use Rattle.std.proofs.Common.{◌≡◌, ℕ, zero, suc, ◌+◌, ◌-◌, ◌*◌, ◌/◌, ◌%◌, ◌<◌, ◌≤◌, arith, ap, ◌∙◌, List, [], ◌∷◌, length, get_or}
use Rattle.std.specs.List.{All}
use Rattle.std.proofs.lemmas.List.Elements.{All-tail}
use Rattle.std.proofs.lemmas.Nat.{div-add-mod', mod_below, div_below, mul-add-lt}
use Rattle.std.proofs.Math.Nat.{mul-pos, mul_comm, mul-le-mul, add-mul}
use Rattle.grid_quantiser.specs.declared.axis.Axis.{Axis}
use Rattle.grid_quantiser.specs.Axes.{IsAxis, cells_of}
use Rattle.grid_quantiser.specs.CellBoxes.{IsCellBox, cells_between}
use Rattle.grid_quantiser.proofs.General.{past_quotient, length-blocks, get_or-blocks}
use Rattle.grid_quantiser.proofs.Suffixes.{some_cells}

-- both corners are cells
pub corners_below : (axes : List Axis) (f l : ℕ) → All IsAxis axes → 1 ≤ length axes → IsCellBox axes f l → (f < cells_of axes) × (l < cells_of axes)
corners_below [] f l each some box = absurd (omega (arith, some))
corners_below (a ∷ axes) f l each some box =
    let later : 0 < cells_of axes = some_cells axes (All-tail IsAxis a axes each) in
    let first : f / cells_of axes < a.count = omega (arith, box.0, box.1) in
    (past_quotient f (cells_of axes) a.count later first, past_quotient l (cells_of axes) a.count later box.1)

-- a box of cells has a cell
pub between_some : (axes : List Axis) (f l : ℕ) → IsCellBox axes f l → 0 < length (cells_between axes f l)
between_some [] f l box = omega arith
between_some (a ∷ axes) f l box =
    let n : ℕ = cells_of axes in
    let part : List ℕ = cells_between axes (f % n) (l % n) in
    let extent : 0 < suc (l / n) - f / n = omega (arith, box.0) in
    rw (length-blocks n part (f / n) (suc (l / n) - f / n)) (mul-pos extent (between_some axes (f % n) (l % n) box.2))

-- a box has no more cells than the grid
pub between_limit : (axes : List Axis) (f l : ℕ) → IsCellBox axes f l → length (cells_between axes f l) ≤ cells_of axes
between_limit [] f l box = omega arith
between_limit (a ∷ axes) f l box =
    let n : ℕ = cells_of axes in
    let part : List ℕ = cells_between axes (f % n) (l % n) in
    let extent : suc (l / n) - f / n ≤ a.count = omega (arith, box.1) in
    rw (length-blocks n part (f / n) (suc (l / n) - f / n)) (mul-le-mul extent (between_limit axes (f % n) (l % n) box.2))

-- each number between two corners is a cell
pub between_below : (axes : List Axis) (f l i : ℕ) → All IsAxis axes → IsCellBox axes f l → i < length (cells_between axes f l) → get_or (cells_between axes f l) i 0 < cells_of axes
between_below [] f l zero each box within = omega arith
between_below [] f l (suc i) each box within = absurd (omega (arith, within))
between_below (a ∷ axes) f l i each box within =
    let n : ℕ = cells_of axes in
    let part : List ℕ = cells_between axes (f % n) (l % n) in
    let m : ℕ = length part in
    let extent : ℕ = suc (l / n) - f / n in
    let some : 0 < m = between_some axes (f % n) (l % n) box.2 in
    let short : i < extent * m = omega (arith, within, length-blocks n part (f / n) extent) in
    let index : i / m < extent = div_below i m extent some short in
    let inner : get_or part (i % m) 0 < n = between_below axes (f % n) (l % n) (i % m) (All-tail IsAxis a axes each) box.2 (mod_below i m some) in
    let row : f / n + i / m < a.count = omega (arith, index, box.0, box.1) in
    rw (get_or-blocks n part (f / n) extent i short)
    (omega (arith, mul-add-lt (f / n + i / m) n (get_or part (i % m) 0) a.count row inner, mul_comm a.count n))

-- the first corner is at most the last
pub box_ordered : (axes : List Axis) (f l : ℕ) → All IsAxis axes → f < cells_of axes → l < cells_of axes → IsCellBox axes f l → f ≤ l
box_ordered [] f l each low high box = omega (arith, low)
box_ordered (a ∷ axes) f l each low high box =
    let n : ℕ = cells_of axes in
    let later : All IsAxis axes = All-tail IsAxis a axes each in
    let some : 0 < n = some_cells axes later in
    let rests : f % n ≤ l % n = box_ordered axes (f % n) (l % n) later (mod_below f n some) (mod_below l n some) box.2 in
    let split : l / n ≡ f / n + (l / n - f / n) = omega (arith, box.0) in
    let product : l / n * n ≡ f / n * n + (l / n - f / n) * n = ap (λ (k : ℕ). k * n) split ∙ add-mul (f / n) (l / n - f / n) n in
    omega (arith, div-add-mod' l n, div-add-mod' f n, product, rests)
