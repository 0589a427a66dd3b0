use Rattle.std.proofs.Common.{List, [], ◌∷◌, ◌++◌, ◌∙◌, ap₂, sym, rules, arith}
use Rattle.std.specs.Prelude.{ℤ, FitsSigned}
use Rattle.std.specs.Int.{w128}
use borrow.Author.Count.{below_more}
use Rattle.std.proofs.lemmas.Int.{to_z-of_z}
use Rattle.std.proofs.lemmas.List.FromFn.{map-range_with_len_more}
use Rattle.successor_box.specs.SuccessorBoxes.{deviation_at}
use Rattle.plant_record.specs.Steps.{equation_at}
use Rattle.successor_box.specs.Deviations.{HasNoOverflowAt}
use Rattle.successor_box.proofs.slopes.deviations_along.Goals as goal

pub loop-input-preserved : goal.loop-input-preserved
loop-input-preserved c =
    let p = c.args.p.now in
    let i = c.args.equation in
    let n = c.loop-input.input in
    let fits : FitsSigned w128 c.in-Some.deviation = search rules in
    record {
      so_far = c.in_ok-push-in-Some.ensures.items ∙ ap₂ (λ (xs : List ℤ) (x : ℤ). xs ++ x ∷ []) c.loop-input.invariant.so_far (to_z-of_z w128 c.in-Some.deviation fits ∙ c.in-Some.ensures.1) ∙ sym (map-range_with_len_more (λ u. deviation_at p u (equation_at p i)) 0 n n (omega arith));
      fits = below_more (HasNoOverflowAt p i) n c.loop-input.invariant.fits c.in-Some.ensures.0;
    }
