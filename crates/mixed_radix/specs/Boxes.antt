-- Boxes of numbers: those whose digits lie, each, from that of one number to that of another. Such a box is given by its
-- first number and by the distance of its last one from that.
use Rattle.std.specs.Prelude.{ℕ, suc, ◌/◌, ◌%◌, List, [], ◌∷◌}
use Rattle.mixed_radix.specs.Radix.{size, number, digits}

-- how many digits the box has in each position
abbrev pub box_counts : List ℕ → ℕ → List ℕ
box_counts [] distance = []
box_counts (n ∷ counts) distance = suc (distance / size counts) ∷ box_counts counts (distance % size counts)

-- the distance of the i-th number of a box from its first, in rising order
abbrev pub nth : List ℕ → List ℕ → ℕ → ℕ
nth counts box_counts i = number counts (digits box_counts i)

-- the last of the counts, as many numbers as a segment has
abbrev pub last_of : List ℕ → ℕ
last_of [] = 1
last_of (n ∷ []) = n
last_of (n ∷ m ∷ counts) = last_of (m ∷ counts)
