-- Products, floors of quotients and extremes of whole numbers, in order.
use Rattle.std.proofs.Common.{arith}
use Rattle.std.specs.Prelude.{ℤ, pos, negsuc, ◌*ℤ◌, ◌≤ℤ◌}
use Rattle.std.specs.Int.{int_min, int_max}
use Rattle.std.proofs.lemmas.Int.{ints, clamps}
use Rattle.std.proofs.Math.IntN.{*ℤ_comm}
use Rattle.base.proofs.Products.{times_positive, times_negative}

-- a number between two others
abbrev pub IsBetween : ℤ → ℤ → ℤ → Type 0
IsBetween low high x = (low ≤ℤ x) × (x ≤ℤ high)

-- a multiple lies between those of the ends
pub multiple_between : (k low high x : ℤ) → IsBetween low high x → IsBetween (int_min (k *ℤ low) (k *ℤ high)) (int_max (k *ℤ low) (k *ℤ high)) (k *ℤ x)
multiple_between (pos n) low high x h =
    let l = times_positive n low x h.0 in
    let g = times_positive n x high h.1 in
    (omega (arith, ints, clamps, l), omega (arith, ints, clamps, g))
multiple_between (negsuc n) low high x h =
    let l = times_negative n low x h.0 in
    let g = times_negative n x high h.1 in
    (omega (arith, ints, clamps, g), omega (arith, ints, clamps, l))

pub product_between : (k low high x : ℤ) → IsBetween low high x → IsBetween (int_min (low *ℤ k) (high *ℤ k)) (int_max (low *ℤ k) (high *ℤ k)) (x *ℤ k)
product_between k low high x h = rw (*ℤ_comm low k, *ℤ_comm high k, *ℤ_comm x k) (multiple_between k low high x h)

-- the least and the greatest of four numbers
abbrev pub least : ℤ → ℤ → ℤ → ℤ → ℤ
least a b c d = int_min (int_min a b) (int_min c d)

abbrev pub greatest : ℤ → ℤ → ℤ → ℤ → ℤ
greatest a b c d = int_max (int_max a b) (int_max c d)

pub all_between : (a b c d : ℤ) → IsBetween (least a b c d) (greatest a b c d) a × IsBetween (least a b c d) (greatest a b c d) b × IsBetween (least a b c d) (greatest a b c d) c × IsBetween (least a b c d) (greatest a b c d) d
all_between a b c d =
    ((omega (arith, ints, clamps), omega (arith, ints, clamps)), (omega (arith, ints, clamps), omega (arith, ints, clamps)), (omega (arith, ints, clamps), omega (arith, ints, clamps)), (omega (arith, ints, clamps), omega (arith, ints, clamps)))
