-- Slots, each empty or holding a value.
use Rattle.std.specs.Prelude.{◌≡◌, ℕ, ◌+◌, ◌≤◌, List, [], ◌∷◌, map, length, take, drop, Option, Some, None}

-- the len slots from the index from on are written
abbrev pub IsFilled : {X : Type 0} → List (Option X) → ℕ → ℕ → Type 0
IsFilled {X = X} slots from len = (from + len ≤ length slots) × ((xs : List X) × (take len (drop from slots) ≡ map Some xs))

-- the values that are written there
abbrev pub values : {X : Type 0} → List (Option X) → List X
values [] = []
values (None ∷ slots) = values slots
values (Some x ∷ slots) = x ∷ values slots
