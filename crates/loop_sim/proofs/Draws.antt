-- The noises that are drawn one after the other.
use Rattle.std.proofs.Common.{◌≡◌, ℕ, zero, suc, ◌+◌, ◌/◌, ◌%◌, ◌^◌, ◌<◌, List, [], ◌∷◌, ◌++◌, Some, All, length, get_or, refl, sym, ap, ap₂, ◌∙◌, arith}
use Rattle.std.specs.Prelude.{ℤ, pos, nat_abs, ◌+ℤ◌, ◌-ℤ◌, ◌≤ℤ◌, slice_get}
use Rattle.std.specs.Option.{option_map}
use Rattle.std.proofs.lemmas.Int.{ints}
use Rattle.std.proofs.lemmas.Option.{none-some, same_Some}
use Rattle.std.proofs.lemmas.List.Elements.{All-head, All-tail}
use Rattle.plant_record.specs.declared.variables.NoiseVariable.{NoiseVariable}
use Rattle.plant_record.specs.Variables.{IsNoiseVariable}
use Rattle.plant_record.specs.Steps.{IsNoise}
use Rattle.loop_sim.specs.Noise.{generator, next_state, noise_of, noises_from}

pub generator_more : (s a b : ℕ) → generator (generator s a) b ≡ generator s (a + b)
generator_more s a zero = ap (generator s) (omega arith)
generator_more s a (suc b) = let further : suc (a + b) ≡ a + suc b = omega arith in ap next_state (generator_more s a b) ∙ ap (generator s) further

-- what follows a later state of the generator
pub noises_later : (noises : List NoiseVariable) (s a k : ℕ) → noises_from noises (generator s a) k ≡ noises_from noises s (a + k)
noises_later [] s a k = refl
noises_later (v ∷ noises) s a k =
    let further : a + suc k ≡ suc (a + k) = omega arith in
    ap₂ (λ (x : ℤ) (xs : List ℤ). x ∷ xs) (ap (noise_of v) (generator_more s a (suc k) ∙ ap (generator s) further)) (noises_later noises s a (suc k) ∙ ap (noises_from noises s) further)

pub noise_count : (noises : List NoiseVariable) (s k : ℕ) → length (noises_from noises s k) ≡ length noises
noise_count [] s k = refl
noise_count (v ∷ noises) s k = ap suc (noise_count noises s (suc k))

-- the noise at a position
pub noise_at : (noises : List NoiseVariable) (s k i : ℕ) (r : ℤ × ℤ) (d : ℤ) → option_map (λ (w : NoiseVariable). (w.low, w.high)) (slice_get noises i) ≡ Some r
    → r.0 +ℤ pos (generator s (suc (k + i)) / 2 ^ 33 % (nat_abs (r.1 -ℤ r.0) + 1)) ≡ get_or (noises_from noises s k) i d
noise_at [] s k i r d is = absurd (none-some r is)
noise_at (v ∷ noises) s k zero r d is =
    let e : (v.low, v.high) ≡ r = same_Some (v.low, v.high) r is in
    let here : k + 0 ≡ k = omega arith in
    ap (λ (n : ℕ). r.0 +ℤ pos (generator s (suc n) / 2 ^ 33 % (nat_abs (r.1 -ℤ r.0) + 1))) here
    ∙ ap (λ (q : ℤ × ℤ). q.0 +ℤ pos (generator s (suc k) / 2 ^ 33 % (nat_abs (q.1 -ℤ q.0) + 1))) (sym e)
noise_at (v ∷ noises) s k (suc i) r d is =
    let further : k + suc i ≡ suc k + i = omega arith in
    ap (λ (n : ℕ). r.0 +ℤ pos (generator s (suc n) / 2 ^ 33 % (nat_abs (r.1 -ℤ r.0) + 1))) further ∙ noise_at noises s (suc k) i r d is

-- the range of a noise of a plant
pub record IsNoiseRange (r : ℤ × ℤ) : Type 0 where
  pub low : nat_abs r.0 < 10 ^ 18
  pub high : nat_abs r.1 < 10 ^ 18

-- ---- the ranges

not_below : (low : ℤ) (n : ℕ) → low ≤ℤ (low +ℤ pos n)
not_below low n = omega (arith, ints)

not_above : (low high : ℤ) (n : ℕ) → low ≤ℤ high → (low +ℤ pos (n % (nat_abs (high -ℤ low) + 1))) ≤ℤ high
not_above low high n h =
    let below : n % (nat_abs (high -ℤ low) + 1) < nat_abs (high -ℤ low) + 1 = omega arith in
    let width : pos (nat_abs (high -ℤ low)) ≡ high -ℤ low = omega (arith, ints) in
    omega (arith, ints, below, width)

pub noises_lie : (noises : List NoiseVariable) (past : List ℤ) (s k : ℕ) → All IsNoiseVariable noises → IsNoise noises (noises_from noises s k ++ past)
noises_lie [] past s k each = tt
noises_lie (v ∷ noises) past s k each =
    (not_below v.low _, not_above v.low v.high _ (All-head IsNoiseVariable v noises each).ordered, noises_lie noises past s (suc k) (All-tail IsNoiseVariable v noises each))
