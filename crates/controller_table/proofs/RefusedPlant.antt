-- Why no plant is read after a table's first line.
use Rattle.std.proofs.Common.{ℕ, ◌+◌, ◌≤◌, List, length, length-append, ap, arith}
use Rattle.std.specs.Prelude.{codes}
use Rattle.text_pieces.proofs.Laws.{few_refused}
use Rattle.plant_text.specs.Grammar.{nothing_yet}
use Rattle.plant_text.specs.CanonicalFronts.{FrontStep, IsFirstRefusedAtFront}

-- no more lines are given than there are bytes, and one
pub line_bound : (bytes : List ℕ) (n : ℕ) → IsFirstRefusedAtFront bytes n → n ≤ length bytes + 1
line_bound bytes n r = few_refused FrontStep _ (λ q m step. omega (arith, ap length step.1, length-append step.0 (codes "\n"))) nothing_yet bytes n r
