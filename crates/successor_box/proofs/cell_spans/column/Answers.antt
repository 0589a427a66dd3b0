use Rattle.std.proofs.Common.{◌≢◌, ◌∙◌, get_or, get_or-set_other, sym, w64, to_z, of_z, rules, arith}
use Rattle.std.specs.Prelude.{ℤ, pos, FitsSigned}
use Rattle.std.proofs.lemmas.Int.{to_z-of_z}
use Rattle.std.proofs.lemmas.List.{get_or-replicate}
use Rattle.successor_box.proofs.cell_spans.column.Goals as goal

pub returns-else-k-at : goal.returns-else-k-at
returns-else-k-at c = λ lane lt.
    let at = c.args.at.now in
    let x : ℤ = get_or at.values.now c.args.k (pos 0) in
    let fits : FitsSigned w64 x = search rules in
    let apart : c.args.k ≢ at.along = omega (arith, c.if-k-at.false) in
    get_or-replicate 32 lane (to_z w64 (of_z w64 x)) (pos 0) lt ∙ to_z-of_z w64 x fits ∙ sym (get_or-set_other at.values.now at.along c.args.k (get_or at.column.now lane (pos 0)) (pos 0) apart)
