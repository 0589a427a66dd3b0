-- No equation of a demo plant overflows: the deviations are 6 positions and 7 in speed.
use Rattle.std.proofs.Common.{ℕ, zero, suc, ◌+◌, ◌-◌, ◌*◌, ◌/◌, ◌<◌, ◌≤◌, List, [], ◌∷◌, length, get_or, arith}
use Rattle.std.specs.Prelude.{ℤ, pos, negsuc, nat_abs, ◌+ℤ◌, ◌-ℤ◌}
use Rattle.std.proofs.lemmas.Int.{ints}
use Rattle.fixed_expr.specs.Range.{IsInRange}
use Rattle.interval_eval.specs.declared.interval.Interval.{Interval}
use Rattle.successor_box.specs.Deviations.{HasNoOverflowOver, HasNoOverflowAt}
use Rattle.command_line.specs.Command.{IsDemoNumber}
use Rattle.demo_plants.specs.Demo.{demo_plant_of, position_step, speed_step, acceleration}
use Rattle.demo_plants.specs.Laws.{DemoPlantsHaveNoOverflow}

-- the value of the input is small
small_value : (k : ℕ) → nat_abs (get_or acceleration.values k (pos 0)) ≤ 20
small_value zero = omega arith
small_value (suc zero) = omega arith
small_value (suc (suc zero)) = omega arith
small_value (suc (suc (suc zero))) = omega arith
small_value (suc (suc (suc (suc zero)))) = omega arith
small_value (suc (suc (suc (suc (suc k))))) = omega arith

small : (z : ℤ) → nat_abs z < 1000000 → IsInRange z
small z lt = omega (arith, lt)

module _ (n : ℕ) (size : IsDemoNumber n) (z : ℤ) (few : nat_abs z ≤ 20) where
  abbrev area : List Interval
  area = record { lo = pos 0; hi = pos (600 * n - 1) } ∷ record { lo = negsuc 99; hi = pos 99 } ∷ record { lo = z; hi = z } ∷ record { lo = negsuc 1; hi = pos 2 } ∷ []

  abbrev radii : List ℤ
  radii = pos 5 ∷ pos 5 ∷ pos 0 ∷ pos 2 ∷ []

  last : nat_abs (pos (600 * n - 1)) < 300000
  last = omega (arith, size.0, size.1)

  low_end : IsInRange (negsuc 99 +ℤ z)
  low_end = small (negsuc 99 +ℤ z) (omega (arith, ints, few))

  position_fits : HasNoOverflowOver position_step area radii
  position_fits = record {
    span = ((small (pos 0) (omega arith), small (pos (600 * n - 1)) (omega (arith, last))), ((small (negsuc 99) (omega arith), small (pos 99) (omega arith)), (small (negsuc 19) (omega arith), small (pos 19) (omega arith))), (small (negsuc 19) (omega arith), small (pos (600 * n - 1 + 19)) (omega (arith, last))));
    deviation = (small (pos 5) (omega arith), (small (pos 5) (omega arith), small (pos 1) (omega arith)), small (pos 6) (omega arith));
    low_end = small (negsuc 25) (omega arith);
    high_end = small (pos (600 * n - 1 + 19 + 6)) (omega (arith, last));
  }

  speed_fits : HasNoOverflowOver speed_step area radii
  speed_fits = record {
    span = (((small (negsuc 99) (omega arith), small (pos 99) (omega arith)), (small z (omega (arith, few)), small z (omega (arith, few))), (low_end, small (pos 99 +ℤ z) (omega (arith, ints, few)))), (small (negsuc 1) (omega arith), small (pos 2) (omega arith)), (small ((negsuc 99 +ℤ z) +ℤ negsuc 1) (omega (arith, ints, few)), small ((pos 99 +ℤ z) +ℤ pos 2) (omega (arith, ints, few))));
    deviation = ((small (pos 5) (omega arith), small (pos 0) (omega arith), small (pos 5) (omega arith)), small (pos 2) (omega arith), small (pos 7) (omega arith));
    low_end = small (((negsuc 99 +ℤ z) +ℤ negsuc 1) -ℤ pos 7) (omega (arith, ints, few));
    high_end = small (((pos 99 +ℤ z) +ℤ pos 2) +ℤ pos 7) (omega (arith, ints, few));
  }

overflows_nowhere : (n : ℕ) → IsDemoNumber n → (i u : ℕ) → i < length (demo_plant_of n).equations → HasNoOverflowAt (demo_plant_of n) i u
unfolding demo_plant_of
overflows_nowhere n size zero u lt = position_fits n size (get_or acceleration.values (u / 1) (pos 0)) (small_value (u / 1))
overflows_nowhere n size (suc zero) u lt = speed_fits n size (get_or acceleration.values (u / 1) (pos 0)) (small_value (u / 1))
overflows_nowhere n size (suc (suc i)) u lt = absurd (omega (arith, lt))

pub no_overflow : DemoPlantsHaveNoOverflow
no_overflow n size i u lt below = overflows_nowhere n size i u lt
