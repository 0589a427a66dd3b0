-- What a call gave at each number of a range, in their order.
use Rattle.std.proofs.Common.{◌≡◌, ℕ, zero, suc, ◌+◌, ◌<◌, List, [], ◌∷◌, All, length, get_or, subst, ◌∙◌, arith}
use Rattle.std.specs.List.{AllZip, range_with_len}
use Rattle.std.proofs.lemmas.List.FromFn.{length-range_with_len}
use Rattle.std.proofs.lemmas.Slice.Zip.{AllZip-long}
use Rattle.rayon.specs.Numbers.{nat_range}
use Rattle.rayon.proofs.ToStd.{nat_range-All}

module _ {Y : Type 0} (R : ℕ → Y → Type 0) where
  at_from : (a n : ℕ) (ys : List Y) → AllZip R (range_with_len a n) ys → (k : ℕ) (d : Y) → k < n → R (a + k) (get_or ys k d)
  at_from a zero ys each k d lt = absurd (omega (arith, lt))
  at_from a (suc n) [] each k d lt = absurd each
  at_from a (suc n) (y ∷ ys) each zero d lt = let P : ℕ → Type 0 = λ i. R i y in let here : a ≡ a + 0 = omega arith in subst P here each.0
  at_from a (suc n) (y ∷ ys) each (suc k) d lt =
      let P : ℕ → Type 0 = λ i. R i (get_or ys k d) in
      let next : a + 1 + k ≡ a + suc k = omega arith in
      subst P next (at_from (a + 1) n ys each.1 k d (omega (arith, lt)))

  pub mapped_at : (n : ℕ) (ys : List Y) → AllZip R (range_with_len 0 n) ys → (k : ℕ) (d : Y) → k < n → R k (get_or ys k d)
  mapped_at n ys each k d lt = let P : ℕ → Type 0 = λ i. R i (get_or ys k d) in let here : 0 + k ≡ k = omega arith in subst P here (at_from 0 n ys each k d lt)

  pub mapped_long : (n : ℕ) (ys : List Y) → AllZip R (range_with_len 0 n) ys → length ys ≡ n
  mapped_long n ys each = AllZip-long R (range_with_len 0 n) ys each ∙ length-range_with_len 0 n

-- the numbers of a range are below its end
pub below_end : (n : ℕ) → All (λ i. i < n) (nat_range 0 n)
below_end n = nat_range-All (λ i. i < n) 0 n (λ i low high. high)
