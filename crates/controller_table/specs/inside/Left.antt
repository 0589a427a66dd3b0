-- What is left of lines that may be there.
use Rattle.std.specs.Prelude.{ℕ, List, [], Option, Some, None}

-- no bytes where nothing is there
abbrev pub left_of : Option (List ℕ) → List ℕ
left_of None = []
left_of (Some bytes) = bytes
