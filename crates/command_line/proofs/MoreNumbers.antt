-- The numbers of a state with one more.
use Rattle.std.proofs.Common.{◌≡◌, ℕ, suc, ◌+◌, ◌-◌, ◌<◌, List, [], ◌∷◌, ◌++◌, length, take, set, replicate, sym, ap, ◌∙◌, append_assoc, length-append, arith}
use Rattle.std.specs.Prelude.{ℤ, pos}
use Rattle.std.proofs.lemmas.List.{take_more_set, set_at, length_push, length-replicate}
use Rattle.grid_quantiser.specs.Cells.{point_of}
use Rattle.command_line.specs.inside.StoredNumbers.{IsStored}

six_positions : (six : List ℤ) (count : ℕ) → IsStored six count → length six ≡ 6
six_positions six count s =
    let xs : List ℤ = take count six in
    omega (arith, ap length s.rest, length-append xs (replicate (6 - length xs) (pos 0)), length-replicate (6 - length xs) (pos 0), s.count_is, s.few)

-- fewer than six numbers leave a position
pub has_capacity : (six : List ℤ) (count : ℕ) (numbers : List ℤ) → IsStored six count → take count six ≡ numbers → length numbers < 6 → count < 6
has_capacity six count numbers s view few = omega (arith, few, s.count_is, ap length view)

-- the number stands after the others
pub pushed : (six : List ℤ) (count : ℕ) (n : ℤ) → IsStored six count → count < 6 → take (count + 1) (set six count n) ≡ take count six ++ n ∷ []
pushed six count n s lt = take_more_set six count n (omega (arith, lt, six_positions six count s))

-- and is kept with them
pub stored_more : (six : List ℤ) (count : ℕ) (n : ℤ) → IsStored six count → count < 6 → IsStored (set six count n) (count + 1)
stored_more six count n s lt = record {
  few = omega (arith, lt);
  rest =
      ap (λ (zs : List ℤ). set zs count n) (s.rest ∙ ap (λ (zs : List ℤ). xs ++ zs) left)
      ∙ set_at xs (pos 0) (replicate (6 - (count + 1)) (pos 0)) n count (sym s.count_is)
      ∙ sym (append_assoc xs (n ∷ []) (replicate (6 - (count + 1)) (pos 0)))
      ∙ ap (λ (k : ℕ). (xs ++ n ∷ []) ++ replicate (6 - k) (pos 0)) more
      ∙ ap point_of (sym (pushed six count n s lt));
  count_is = more ∙ ap length (sym (pushed six count n s lt));
}
  where
    xs : List ℤ
    xs = take count six

    left : replicate (6 - length xs) (pos 0) ≡ pos 0 ∷ replicate (6 - (count + 1)) (pos 0)
    left = let one : 6 - length xs ≡ suc (6 - (count + 1)) = omega (arith, s.count_is, lt) in ap (λ (k : ℕ). replicate k (pos 0)) one

    more : count + 1 ≡ length (xs ++ n ∷ [])
    more = ap (λ (k : ℕ). k + 1) s.count_is ∙ sym (length_push xs n)
