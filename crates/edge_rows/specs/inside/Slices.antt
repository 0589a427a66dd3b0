-- Slots that are written one after another.
use Rattle.std.specs.Prelude.{◌≡◌, ℕ, ◌<◌, List, [], ◌∷◌, length, get_or, slice_set, Option, Some, None}

-- the slots once a value is written at each of these slots
abbrev pub contents_with : List (Option ℕ) → List ℕ → ℕ → List (Option ℕ)
contents_with contents [] value = contents
contents_with contents (end ∷ ends) value = contents_with (slice_set contents end (Some value)) ends value

-- each of these slots is empty, also when those before it are written
abbrev pub AreFree : List (Option ℕ) → List ℕ → ℕ → Type 0
AreFree contents [] value = Unit {0}
AreFree contents (end ∷ ends) value = (end < length contents) × (get_or contents end None ≡ None) × AreFree (slice_set contents end (Some value)) ends value
