-- A demo plant is a plant, with 1,200 n cells and 6,000 n pairs.
use Rattle.std.proofs.Common.{◌≡◌, ℕ, ◌+◌, ◌-◌, ◌*◌, ◌/◌, ◌%◌, ◌<◌, ◌≤◌, List, [], ◌∷◌, get_or, arith, refl, ap, ◌∙◌}
use Rattle.std.specs.Prelude.{pos, negsuc, nat_abs, ◌+ℤ◌, ◌-ℤ◌, AllPairs}
use Rattle.std.specs.List.{All}
use Rattle.std.proofs.lemmas.Int.{ints}
use Rattle.std.proofs.lemmas.List.Elements.{All-nil, All-cons}
use Rattle.std.proofs.lemmas.List.Kept.{AllPairs-cons}
use Rattle.grid_quantiser.specs.Axes.{cells_of}
use Rattle.line_words.specs.Numbers.{IsLiteral}
use Rattle.plant_record.specs.Description.{axes_of, count_of, vectors_of}
use Rattle.plant_record.specs.Variables.{IsStateVariable, IsInputVariable, IsNoiseVariable}
use Rattle.plant_record.specs.StateBoxes.{IsStateBox}
use Rattle.plant_record.specs.Equations.{IsEquation, HasNoLut}
use Rattle.plant_record.specs.Plants.{IsPlant}
use Rattle.plant_record.specs.Limits.{IsWithinLimits}
use Rattle.pair_box.specs.PlantBoxes.{pairs_of_plant}
use Rattle.command_line.specs.Command.{IsDemoNumber}
use Rattle.demo_plants.specs.Demo.{demo_plant_of, position, speed, acceleration, wind, demo_target, fast_forwards, fast_backwards, position_step, speed_step}
use Rattle.demo_plants.specs.Laws.{DemoPlantsAreWithinLimits}

-- ---- lists of one and of two

one : {X : Type 0} (P : X → Type 0) (x : X) → P x → All P (x ∷ [])
one P x p = All-cons P x [] p (All-nil P)

two : {X : Type 0} (P : X → Type 0) (x y : X) → P x → P y → All P (x ∷ y ∷ [])
two P x y p q = All-cons P x (y ∷ []) p (one P y q)

-- ---- the grid

ten_divides : (k : ℕ) → 600 * k % 10 ≡ 0
ten_divides k = omega arith

tenth : (k : ℕ) → 600 * k / 10 ≡ 60 * k
tenth k = omega arith

module _ (n : ℕ) (size : IsDemoNumber n) where
  some : 1 ≤ n
  some = size.0

  few : n ≤ 500
  few = size.1

  positions_are : nat_abs ((pos (600 * n - 1) -ℤ pos 0) +ℤ pos 1) ≡ 600 * n
  positions_are = omega (arith, ints, some)

  position_count : count_of (position n) ≡ 60 * n
  position_count = ap (λ (k : ℕ). k / 10) positions_are ∙ tenth n

  cells_are : cells_of (axes_of (demo_plant_of n)) ≡ 1200 * n
  unfolding demo_plant_of
  cells_are = omega (arith, position_count)

  pairs_are : pairs_of_plant (demo_plant_of n) ≡ 6000 * n
  unfolding demo_plant_of
  pairs_are = omega (arith, position_count)

  -- ---- the plant

  literal : (k : ℕ) → k < 1000000 → IsLiteral (pos k)
  literal k lt = omega (arith, lt)

  position_is : IsStateVariable (position n)
  position_is = record {
    name = refl;
    low = omega arith;
    high = literal (600 * n - 1) (omega (arith, few));
    width = omega arith;
    ordered = omega (arith, ints);
    some_width = omega (arith, ints);
    whole_cells = ap (λ (k : ℕ). k % 10) positions_are ∙ ten_divides n;
  }

  speed_is : IsStateVariable speed
  speed_is = record {
    name = refl;
    low = omega arith;
    high = omega arith;
    width = omega arith;
    ordered = omega (arith, ints);
    some_width = omega (arith, ints);
    whole_cells = refl;
  }

  acceleration_is : IsInputVariable acceleration
  acceleration_is = record {
    name = refl;
    some_value = omega arith;
    values_bound = omega arith;
    each =
        All-cons IsLiteral (negsuc 19) (negsuc 14 ∷ pos 0 ∷ pos 15 ∷ pos 20 ∷ []) (omega arith)
        (All-cons IsLiteral (negsuc 14) (pos 0 ∷ pos 15 ∷ pos 20 ∷ []) (omega arith)
        (All-cons IsLiteral (pos 0) (pos 15 ∷ pos 20 ∷ []) (omega arith) (two IsLiteral (pos 15) (pos 20) (omega arith) (omega arith))));
  }

  wind_is : IsNoiseVariable wind
  wind_is = record { name = refl; low = omega arith; high = omega arith; ordered = omega (arith, ints) }

  position_step_is : IsEquation 4 position_step
  position_step_is = record { literals = (omega arith, (omega arith, omega (arith, ints), omega arith)); nodes = omega arith; depth = omega arith }

  speed_step_is : IsEquation 4 speed_step
  speed_step_is = record { literals = ((omega arith, omega arith), omega arith); nodes = omega arith; depth = omega arith }

  target_is : IsStateBox 2 (demo_target n)
  target_is = record {
    low_rest = refl;
    high_rest = refl;
    low_count = refl;
    ends = ((literal (400 * n) (omega (arith, few)), literal (560 * n - 1) (omega (arith, few)), omega (arith, ints, some)), ((omega arith, omega arith, omega (arith, ints)), tt));
  }

  forwards_is : IsStateBox 2 (fast_forwards n)
  forwards_is = record {
    low_rest = refl;
    high_rest = refl;
    low_count = refl;
    ends = ((literal (200 * n) (omega (arith, few)), literal (200 * n + 19) (omega (arith, few)), omega (arith, ints)), ((omega arith, omega arith, omega (arith, ints)), tt));
  }

  backwards_is : IsStateBox 2 (fast_backwards n)
  backwards_is = record {
    low_rest = refl;
    high_rest = refl;
    low_count = refl;
    ends = ((literal (300 * n) (omega (arith, few)), literal (300 * n + 9) (omega (arith, few)), omega (arith, ints)), ((omega arith, omega arith, omega (arith, ints)), tt));
  }

  apart : (a b : ℕ) → (a ≡ b → ⊥) → (a ∷ []) ≡ (b ∷ []) → ⊥
  apart a b differ e = differ (ap (λ (name : List ℕ). get_or name 0 0) e)

  abbrev Differ : List ℕ → List ℕ → Type 0
  Differ a b = a ≡ b → ⊥

  names_differ : AllPairs Differ ((112 ∷ []) ∷ (118 ∷ []) ∷ (97 ∷ []) ∷ (119 ∷ []) ∷ [])
  names_differ =
      let p : List ℕ = 112 ∷ [] in
      let v : List ℕ = 118 ∷ [] in
      let a : List ℕ = 97 ∷ [] in
      let w : List ℕ = 119 ∷ [] in
      AllPairs-cons Differ p (v ∷ a ∷ w ∷ [])
      (All-cons (Differ p) v (a ∷ w ∷ []) (apart 112 118 (λ e. omega (arith, e))) (two (Differ p) a w (apart 112 97 (λ e. omega (arith, e))) (apart 112 119 (λ e. omega (arith, e)))))
      (AllPairs-cons Differ v (a ∷ w ∷ []) (two (Differ v) a w (apart 118 97 (λ e. omega (arith, e))) (apart 118 119 (λ e. omega (arith, e))))
      (AllPairs-cons Differ a (w ∷ []) (one (Differ a) w (apart 97 119 (λ e. omega (arith, e)))) (λ i j d lt below. omega (arith, lt, below))))

  plant_is : IsPlant (demo_plant_of n)
  unfolding demo_plant_of
  plant_is = record {
    some_state = omega arith;
    states_bound = omega arith;
    states = two IsStateVariable (position n) speed position_is speed_is;
    inputs_bound = omega arith;
    inputs = one IsInputVariable acceleration acceleration_is;
    noises_bound = omega arith;
    noises = one IsNoiseVariable wind wind_is;
    names_differ = names_differ;
    one_each = refl;
    equations = two (IsEquation 4) position_step speed_step position_step_is speed_step_is;
    targets_bound = omega arith;
    targets = one (IsStateBox 2) (demo_target n) target_is;
    obstacles_bound = omega arith;
    obstacles = two (IsStateBox 2) (fast_forwards n) (fast_backwards n) forwards_is backwards_is;
    tables = λ e. two HasNoLut position_step speed_step (tt, tt) ((tt, tt), tt);
    kept_aims_nowhere = λ e. cc;
  }

  vectors_are : vectors_of (demo_plant_of n).inputs ≡ 5
  unfolding demo_plant_of
  vectors_are = refl

  limits : IsWithinLimits (demo_plant_of n)
  limits = record {
    plant = plant_is;
    vectors = omega (arith, vectors_are);
    cells = omega (arith, cells_are, few);
    pairs = omega (arith, pairs_are, few);
  }

pub within_limits : DemoPlantsAreWithinLimits
within_limits n size = record { limits = limits n size; cells = cells_are n size; pairs = pairs_are n size }
