-- Lines that are counted.
use Rattle.std.specs.Prelude.{ℕ, ◌==◌, List, count_by}

-- how many lines end in the bytes
abbrev pub line_count : List ℕ → ℕ
line_count bytes = count_by (λ b. b == 10) bytes
