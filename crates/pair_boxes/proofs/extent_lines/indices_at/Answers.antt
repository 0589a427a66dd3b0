use Rattle.std.proofs.Common.{◌≡◌, ℕ, ◌+◌, ◌-◌, ◌/◌, ◌%◌, ◌<◌, ◌∙◌, eqb, List, length, drop, set, get_or, get_or-set_other, get_or-set_same, refl, sym, ap, subst, arith}
use Rattle.std.proofs.lemmas.Bool.{cond_both, eqb-true, eqb-false}
use Rattle.std.proofs.lemmas.List.{length-set, drop_all, drop_more, get_or-replicate}
use Rattle.pair_boxes.specs.declared.digits.Digit.{Digit}
use Rattle.pair_boxes.specs.inside.Digits.{index_at}
use Rattle.pair_boxes.proofs.extent_lines.indices_at.Goals as goal

pub loop-k-init : goal.loop-k-init
loop-k-init c = record {
  nine = refl;
  each = λ k known. get_or-replicate 9 k 0 0 known ∙ sym (ap (λ (ds : List Digit). index_at ds k c.args.slot) (drop_all (length c.args.digits.now) c.args.digits.now (omega arith)));
}

pub loop-k-preserved : goal.loop-k-preserved
loop-k-preserved c =
    let ds : List Digit = c.args.digits.now in
    let i : ℕ = c.loop-k.k - 1 in
    let d : Digit = get_or ds i (record { variable = 0; count = 0; stride = 0 }) in
    let value : ℕ = c.args.slot / d.stride % d.count in
    let so_far = c.loop-k.invariant in
    let after : c.loop-k.k ≡ i + 1 = omega (arith, c.loop-k-test.true) in
    let short : i < length ds = omega (arith, c.loop-k-test.true, c.loop-k.auto.k) in
    let known : d.variable < length c.loop-k.indices = omega (arith, so_far.nine, (c.requires i (record { variable = 0; count = 0; stride = 0 }) short).0) in
    record {
      nine = length-set c.loop-k.indices d.variable value ∙ so_far.nine;
      each = λ k within.
          cond_both (eqb k d.variable) value (index_at (drop (i + 1) ds) k c.args.slot) (λ (n : ℕ). get_or (set c.loop-k.indices d.variable value) k 0 ≡ n)
          (λ own. subst (λ (j : ℕ). get_or (set c.loop-k.indices d.variable value) j 0 ≡ value) (sym (eqb-true k d.variable own)) (get_or-set_same c.loop-k.indices d.variable value 0 known))
          (λ other. get_or-set_other c.loop-k.indices d.variable k value 0 (eqb-false k d.variable other) ∙ so_far.each k within ∙ ap (λ (n : ℕ). index_at (drop n ds) k c.args.slot) after)
          ∙ sym (ap (λ (es : List Digit). index_at es k c.args.slot) (drop_more ds i (record { variable = 0; count = 0; stride = 0 }) short));
    }
