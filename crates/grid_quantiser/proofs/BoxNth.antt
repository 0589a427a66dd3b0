-- A box by how many indices it has along each axis: its cells, and which one is the nth.
use Rattle.std.proofs.Common.{◌≡◌, ℕ, zero, suc, ◌+◌, ◌-◌, ◌*◌, ◌/◌, ◌%◌, ◌^◌, ◌<◌, ◌≤◌, arith, ap, ap₂, sym, subst, ◌∙◌, List, [], ◌∷◌, length, map, get_or}
use Rattle.std.specs.List.{All}
use Rattle.std.proofs.lemmas.Nat.{div-add-mod', mod_below}
use Rattle.std.proofs.lemmas.Grind.{same_number_lists}
use Rattle.std.proofs.lemmas.List.{length-map, get_or-map}
use Rattle.std.proofs.Math.Nat.{add-mul}
use Rattle.mixed_radix.specs.Radix.{size}
use Rattle.mixed_radix.specs.Boxes.{box_counts, nth}
use Rattle.grid_quantiser.specs.declared.axis.Axis.{Axis}
use Rattle.grid_quantiser.specs.Axes.{IsAxis, AreAxes, counts_of, cells_of}
use Rattle.grid_quantiser.specs.CellBoxes.{IsCellBox, cells_between}
use Rattle.grid_quantiser.proofs.General.{length-blocks, get_or-blocks}
use Rattle.grid_quantiser.proofs.BoxCells.{between_some, corners_below, box_ordered}
use Rattle.grid_quantiser.proofs.BoxShapes.{index_is, rest_is, later, some, shape_box}

-- What the corners of a box keep.
pub record AreCorners (axes : List Axis) (f l : ℕ) : Type 0 where
  pub grid : AreAxes axes
  pub limit : cells_of axes ≤ 2 ^ 20
  pub ordered : IsCellBox axes f l
  pub low : f < cells_of axes
  pub high : l < cells_of axes
  pub order : f ≤ l

pub corners : (axes : List Axis) (f l : ℕ) → AreAxes axes → cells_of axes ≤ 2 ^ 20 → IsCellBox axes f l → AreCorners axes f l
corners axes f l grid limit box =
    let below = corners_below axes f l grid.each grid.some_state box in
    record { grid = grid; limit = limit; ordered = box; low = below.0; high = below.1; order = box_ordered axes f l grid.each below.0 below.1 box }

-- how far after the first corner the last is, on the first axis and on the others
size_here : (a : Axis) (axes : List Axis) (f l : ℕ) → All IsAxis (a ∷ axes) → IsCellBox (a ∷ axes) f l →
    (suc (l / cells_of axes) - f / cells_of axes ≡ suc ((l - f) / cells_of axes)) × ((l - f) % cells_of axes ≡ l % cells_of axes - f % cells_of axes)
size_here a axes f l each box = (omega (arith, index_is a axes f l each box, box.0), rest_is a axes f l each box)

pub length-between : (axes : List Axis) (f l : ℕ) → All IsAxis axes → IsCellBox axes f l → length (cells_between axes f l) ≡ size (box_counts (counts_of axes) (l - f))
length-between [] f l each box = omega arith
length-between (a ∷ axes) f l each box =
    let n : ℕ = cells_of axes in
    let part = cells_between axes (f % n) (l % n) in
    let here = size_here a axes f l each box in
    length-blocks n part (f / n) (suc (l / n) - f / n)
    ∙ ap₂ (λ (p q : ℕ). p * q) here.0 (length-between axes (f % n) (l % n) (later a axes f l each box) box.2 ∙ ap (λ (d : ℕ). size (box_counts (counts_of axes) d)) (sym here.1))

pub between_nth : (axes : List Axis) (f l i : ℕ) → All IsAxis axes → f < cells_of axes → IsCellBox axes f l → i < length (cells_between axes f l) →
    get_or (cells_between axes f l) i 0 ≡ f + nth (counts_of axes) (box_counts (counts_of axes) (l - f)) i
between_nth [] f l zero each low box within = omega (arith, low)
between_nth [] f l (suc i) each low box within = absurd (omega (arith, within))
between_nth (a ∷ axes) f l i each low box within =
    let n : ℕ = cells_of axes in
    let counts : List ℕ = counts_of axes in
    let part : List ℕ = cells_between axes (f % n) (l % n) in
    let extent : ℕ = suc (l / n) - f / n in
    let m : ℕ = length part in
    let here = size_here a axes f l each box in
    let inner : All IsAxis axes = later a axes f l each box in
    let some_m : 0 < m = between_some axes (f % n) (l % n) box.2 in
    let long : m ≡ size (box_counts counts ((l - f) % n)) = length-between axes (f % n) (l % n) inner box.2 ∙ ap (λ (d : ℕ). size (box_counts counts d)) (sym here.1) in
    let rest : get_or part (i % m) 0 ≡ f % n + nth counts (box_counts counts ((l - f) % n)) (i % m) =
    between_nth axes (f % n) (l % n) (i % m) inner (mod_below f n (some a axes f l each box)) box.2 (mod_below i m some_m)
    ∙ ap (λ (d : ℕ). f % n + nth counts (box_counts counts d) (i % m)) (sym here.1)
    in
    let P : ℕ → Type 0 = λ t. get_or (cells_between (a ∷ axes) f l) i 0 ≡ f + (i / t * n + nth counts (box_counts counts ((l - f) % n)) (i % t)) in
    subst P long
    (get_or-blocks n part (f / n) extent i (omega (arith, within, length-blocks n part (f / n) extent))
    ∙ omega (arith, rest, add-mul (f / n) (i / m) n, div-add-mod' f n))

-- a box is its shape, shifted
pub shifted_shape : (axes : List Axis) (f l : ℕ) → All IsAxis axes → f < cells_of axes → IsCellBox axes f l → cells_between axes f l ≡ map (λ c. f + c) (cells_between axes 0 (l - f))
shifted_shape axes f l each below box =
    let shape : List ℕ = cells_between axes 0 (l - f) in
    let is_box : IsCellBox axes 0 (l - f) = shape_box axes f l each box in
    let some : 0 < cells_of axes = omega (arith, below) in
    let same : l - f - 0 ≡ l - f = omega arith in
    let long : length (cells_between axes f l) ≡ length shape =
    length-between axes f l each box ∙ sym (length-between axes 0 (l - f) each is_box ∙ ap (λ (d : ℕ). size (box_counts (counts_of axes) d)) same)
    in
    same_number_lists (cells_between axes f l) (map (λ c. f + c) shape) (long ∙ sym (length-map shape (λ c. f + c)))
    (λ k lt.
    let within : k < length shape = omega (arith, lt, long) in
    let moved : get_or shape k 0 ≡ 0 + nth (counts_of axes) (box_counts (counts_of axes) (l - f)) k =
    between_nth axes 0 (l - f) k each some is_box within ∙ ap (λ (d : ℕ). 0 + nth (counts_of axes) (box_counts (counts_of axes) d) k) same
    in
    omega (arith, between_nth axes f l k each below box lt, moved, get_or-map (λ c. f + c) shape k 0 0 within))
