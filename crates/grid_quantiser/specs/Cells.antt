-- The cells that tile the domain, and their points.
use Rattle.std.specs.Prelude.{◌≡◌, ℕ, ◌-◌, ◌/◌, ℤ, pos, nat_abs, ◌+ℤ◌, ◌-ℤ◌, ◌*ℤ◌, ◌<ℤ◌, ◌≤ℤ◌, List, [], ◌∷◌, ◌++◌, length, replicate}
use Rattle.grid_quantiser.specs.declared.axis.Axis.{Axis}
use Rattle.base.specs.declared.limits.TheConstants.{STATES_LIMIT}
use Rattle.mixed_radix.specs.Radix.{number, digits}
use Rattle.grid_quantiser.specs.Axes.{end_of, counts_of}

-- a state lies in the domain: in each index from the least number of the axis to its greatest
abbrev pub IsInDomain : List Axis → List ℤ → Type 0
IsInDomain [] xs = Unit {0}
IsInDomain (a ∷ axes) [] = ⊥
IsInDomain (a ∷ axes) (x ∷ xs) = (a.lo ≤ℤ x) × (x <ℤ end_of a) × IsInDomain axes xs

-- the index of a number on an axis: the floor of its distance from the low end by the width
abbrev pub index_of : Axis → ℤ → ℕ
index_of a x = nat_abs (x -ℤ a.lo) / nat_abs a.width

-- the indices of a state, one on each axis
abbrev pub indices_of : List Axis → List ℤ → List ℕ
indices_of (a ∷ axes) (x ∷ xs) = index_of a x ∷ indices_of axes xs
indices_of _ _ = []

-- the cell of a state: its indices as one number, the first state varying slowest
abbrev pub cell_of : List Axis → List ℤ → ℕ
cell_of axes xs = number (counts_of axes) (indices_of axes xs)

-- the points of a cell
abbrev pub IsPointOf : List Axis → ℕ → List ℤ → Type 0
IsPointOf axes c xs = IsInDomain axes xs × (cell_of axes xs ≡ c)

-- the radius of a cell along an axis: half its width, rounded down
abbrev pub radius_of : Axis → ℤ
radius_of a = pos (nat_abs a.width / 2)

-- one number of each index
abbrev pub numbers_at : (Axis → ℕ → ℤ) → List Axis → List ℕ → List ℤ
numbers_at number_in (a ∷ axes) (p ∷ indices) = number_in a p ∷ numbers_at number_in axes indices
numbers_at _ _ _ = []

-- the least point of a cell
abbrev pub low_of : List Axis → ℕ → List ℤ
low_of axes c = numbers_at (λ a p. a.lo +ℤ (a.width *ℤ pos p)) axes (digits (counts_of axes) c)

-- the centre of a cell: its least point and the radius in each state
abbrev pub centre_of : List Axis → ℕ → List ℤ
centre_of axes c = numbers_at (λ a p. (a.lo +ℤ (a.width *ℤ pos p)) +ℤ radius_of a) axes (digits (counts_of axes) c)

-- the greatest point of a cell
abbrev pub high_of : List Axis → ℕ → List ℤ
high_of axes c = numbers_at (λ a p. (a.lo +ℤ (a.width *ℤ pos p)) +ℤ (a.width -ℤ pos 1)) axes (digits (counts_of axes) c)

-- six numbers, 0 past the given ones
abbrev pub point_of : List ℤ → List ℤ
point_of xs = xs ++ replicate (STATES_LIMIT - length xs) (pos 0)
