-- Slots that are all written.
use Rattle.std.proofs.Common.{◌≡◌, ℕ, zero, suc, ◌<◌, List, [], ◌∷◌, Option, Some, None, length, map, get_or, refl, ap, ap₂, ◌∙◌, arith}
use Rattle.raw_slots.specs.Slots.{values}

-- the values are what was written
pub values-map : {X : Type 0} (xs : List X) → values (map Some xs) ≡ xs
values-map [] = refl
values-map (x ∷ xs) = ap (λ l. x ∷ l) (values-map xs)

-- slots that hold so many values, each at its position, hold these
pub all_written : {X : Type 0} (xs : List X) (slots : List (Option X)) → length slots ≡ length xs → ((k : ℕ) (d : X) → k < length xs → get_or slots k None ≡ Some (get_or xs k d)) → slots ≡ map Some xs
all_written [] [] many each = refl
all_written [] (s ∷ slots) many each = absurd (omega (arith, many))
all_written (x ∷ xs) [] many each = absurd (omega (arith, many))
all_written (x ∷ xs) (s ∷ slots) many each =
    ap₂ ◌∷◌ (each zero x (omega arith)) (all_written xs slots (omega (arith, many)) (λ k d lt. each (suc k) d (omega (arith, lt))))

-- the values of slots that hold a list are the list
pub held_values : {X : Type 0} (xs : List X) (slots : List (Option X)) → slots ≡ map Some xs → values slots ≡ xs
held_values xs slots held = ap values held ∙ values-map xs
