-- Products and quotients, in order.
use Rattle.std.proofs.Common.{ℕ, zero, suc, ◌+◌, ◌*◌, ◌/◌, ◌<◌, ◌≤◌, arith}
use Rattle.std.specs.Prelude.{ℤ, pos, negsuc, ◌*ℤ◌, ◌≤ℤ◌}
use Rattle.std.proofs.lemmas.Int.{ints}
use Rattle.std.proofs.lemmas.Nat.{le-div}
use Rattle.std.proofs.Math.Nat.{mul-le-mul_left, mul-le-mul_right, div-mul-le_self, mul-zero, add-mul}
use borrow.Author.Differences.{up, down}

pub times_positive : (n : ℕ) (x y : ℤ) → x ≤ℤ y → (pos n *ℤ x) ≤ℤ (pos n *ℤ y)
times_positive n x y below =
    let apart : up x + down y ≤ up y + down x = omega (arith, ints) in
    omega (arith, ints, mul-le-mul_left n apart)

pub times_negative : (n : ℕ) (x y : ℤ) → x ≤ℤ y → (negsuc n *ℤ y) ≤ℤ (negsuc n *ℤ x)
times_negative n x y below =
    let apart : up x + down y ≤ up y + down x = omega (arith, ints) in
    omega (arith, ints, mul-le-mul_left (suc n) apart)

pub quotients_in_order : (m n k : ℕ) → 0 < k → m ≤ n → m / k ≤ n / k
quotients_in_order m n k some order = le-div (m / k) n k some (omega (arith, div-mul-le_self m k))

-- the second factor of a product with something below it
pub some_factor : (m n u : ℕ) → u < m * n → 0 < n
some_factor m zero u below = let none = mul-zero m in absurd (omega arith)
some_factor m (suc n) u below = omega arith

-- one of so many parts of one size lies in the whole
pub part_fits : (k count size : ℕ) → k < count → k * size + size ≤ count * size
part_fits k count size lt = let parts : (k + 1) * size ≤ count * size = mul-le-mul_right size (omega (arith, lt)) in omega (arith, parts, add-mul k 1 size)

pub nothing_below : {A : Type 0} (k : ℕ) → k < 0 → A
nothing_below k none = absurd (omega (arith, none))
