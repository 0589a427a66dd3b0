-- The words of a state as they stand in a line. No public clause names this.
use Rattle.std.specs.Prelude.{ℕ, ℤ, List, ◌∷◌}
use Rattle.std.specs.List.{flat_map}
use Rattle.std.specs.Fmt.{signed_decimal}

-- the numbers of a state, each with a space before it
abbrev pub state_text : List ℤ → List ℕ
state_text x = flat_map (λ z. 32 ∷ signed_decimal z) x
