use Rattle.std.proofs.Common.{◌≡◌, ◌∙◌, ◌+◌, None, take, refl, arith}
use Rattle.std.proofs.lemmas.List.Sums.{sum_by_more}
use Rattle.game_parts.specs.declared.part_search.PartFinding.{PartFinding}
use Rattle.game_parts.specs.inside.Findings.{finding_at, first_of, first_found}
use Rattle.game_parts.proofs.SummedFindings.{first_next, taken_later, taken_first}
use Rattle.game_parts.proofs.part_search.sum_up.Goals as goal
use Rattle.game_parts.proofs.part_search.sum_up.Goals.{then-is_none, else-is_none}

pub loop-finding-preserved : goal.loop-finding-preserved
loop-finding-preserved c =
    let findings = c.args.findings.now in
    let k = c.loop-finding.finding-index in
    let f = finding_at findings k in
    let first = c.loop-finding.first in
    let next : first_of first f.first ≡ first_found (take (k + 1) findings) = first_next findings k first f c.loop-finding-test.true refl c.loop-finding.invariant.1 in
    let taken : c.if-is_none.first ≡ first_of first f.first =
    elim c.if-is_none.branch [
      | then-is_none w ↦ w.first-is ∙ taken_later first f.first c.is_none.result c.is_none.ensures w.if-is_none.true
      | else-is_none w ↦ w.first-is ∙ taken_first first f.first c.is_none.result c.is_none.ensures w.if-is_none.false
    ]
    in
    (omega (arith, c.loop-finding.invariant.0, sum_by_more (λ (g : PartFinding). g.edges) findings k (record { edges = 0; first = None }) c.loop-finding-test.true), taken ∙ next)
