use Rattle.std.proofs.Common.{◌≡◌, ◌+◌, ◌∷◌, ◌++◌, [], take, sum, get_or, ap, sym, ◌∙◌, arith}
use Rattle.std.proofs.lemmas.List.{take_more}
use Rattle.std.proofs.lemmas.List.Sums.{sum_by_more}
use Rattle.edge_rows.specs.inside.Layout.{starts_from}
use Rattle.edge_rows.proofs.Laid.{starts-more}
use Rattle.edge_rows.proofs.fill.starts_of.Goals as goal

pub loop-length-preserved : goal.loop-length-preserved
loop-length-preserved c =
    let i = c.loop-length.length-index in let all = c.args.lengths.now in let n = get_or all i 0 in
    let end : c.loop-length.end + n ≡ sum (take (i + 1) all) = omega (arith, c.loop-length.invariant.0, sum_by_more (λ k. k) all i 0 c.loop-length-test.true) in (
      end,
      c.in_ok-push-2.ensures.items ∙ ap (λ l. l ++ (c.loop-length.end + n) ∷ []) c.loop-length.invariant.1
          ∙ sym (starts-more 0 (take i all) n (c.loop-length.end + n) (omega (arith, c.loop-length.invariant.0))) ∙ ap (starts_from 0) (sym (take_more all i 0 c.loop-length-test.true)),
    )
