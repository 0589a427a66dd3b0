-- What a search finds.
use Rattle.std.specs.Prelude.{Option, Some, None}

-- What is found, as it is seen, has the property; where nothing is found, nothing has it.
abbrev pub Finds : {X Y : Type 0} → (X → Y) → (Y → Type 0) → Option X → Type 0
Finds view P None = (y : _) → P y → ⊥
Finds view P (Some x) = P (view x)
