use Rattle.std.proofs.Common.{◌≡◌, ap, ◌∙◌, rules}
use Rattle.std.specs.Prelude.{pos, nat_abs, ◌+ℤ◌, ◌-ℤ◌, ◌≤ℤ◌, FitsSigned}
use Rattle.std.specs.Int.{w128}
use Rattle.std.proofs.lemmas.Int.{to_z-of_z}
use Rattle.line_words.proofs.lemmas.NumberWords.{whole}
use Rattle.statement_words.proofs.declarations.has_whole_cells.Goals as goal

pub numbers_along-requires-clause-low : goal.numbers_along-requires-clause-low
numbers_along-requires-clause-low c = rw (whole c.args.low c.requires.low) c.requires.low

pub numbers_along-requires-clause-high : goal.numbers_along-requires-clause-high
numbers_along-requires-clause-high c = rw (whole c.args.high c.requires.high) c.requires.high

pub returns-then-width-ge1 : goal.returns-then-width-ge1
returns-then-width-ge1 c =
    let fits : FitsSigned w128 c.args.width = search rules in
    let width-is = to_z-of_z w128 c.args.width fits in
    let test = rw width-is at c.if-width-ge1.true in
    let some : pos 1 ≤ℤ c.args.width = search (rules, test) in
    let k : c.unsigned_abs.result ≡ nat_abs c.args.width = c.unsigned_abs.ensures.value ∙ ap nat_abs width-is in
    let n : c.numbers_along.result ≡ nat_abs ((c.args.high -ℤ c.args.low) +ℤ pos 1) = rw (whole c.args.low c.requires.low, whole c.args.high c.requires.high) at c.numbers_along.ensures in
    let divides = rw (n, k) at c.divides.ensures in
    (λ is. (some, divides.0 is), λ cells. divides.1 cells.1)
