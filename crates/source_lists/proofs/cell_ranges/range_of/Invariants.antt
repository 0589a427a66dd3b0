use Rattle.std.proofs.Common.{ℕ, ◌<◌, ◌≤◌, None, get_or}
use Rattle.source_lists.specs.inside.CellRanges.{LiesIn}
use Rattle.source_lists.proofs.cell_ranges.range_of.Given as goal

-- the boxes so far lie in the range
abbrev pub invariant-loop-pair : goal.invariant-loop-pair
invariant-loop-pair l = (j : ℕ) → l.from ≤ j → j < l.pair → LiesIn (record { first = l.first; last = l.last }) (get_or l.boxes j None)
