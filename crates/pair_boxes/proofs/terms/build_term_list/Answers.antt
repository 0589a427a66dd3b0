use Rattle.std.proofs.Common.{◌≡◌, ℕ, ◌+◌, ◌*◌, ◌/◌, ◌%◌, ◌<◌, ◌-◌, ◌∙◌, [], ◌∷◌, ◌++◌, Option, None, length, get_or, below_more, sym, ap, subst, arith}
use Rattle.std.proofs.lemmas.List.{length-append, get_or_append_left, get_or-append_right}
use Rattle.std.proofs.lemmas.Nat.{div-mul-add, mod-mul-add, mul-add-lt, div_below}
use Rattle.grid_quantiser.specs.declared.boxes.CellBox.{CellBox}
use Rattle.plant_record.proofs.lemmas.SoundPlants.{sound as sound_plant}
use Rattle.pair_boxes.specs.inside.Terms.{IsTermFrom}
use Rattle.pair_boxes.proofs.ListedTerms.{own_few}
use Rattle.base.proofs.Products.{some_factor}
use Rattle.pair_boxes.proofs.terms.build_term_list.Goals as goal

pub term_of-requires-clause-indices : goal.term_of-requires-clause-indices
term_of-requires-clause-indices c =
    let p = c.args.of.now.sampled.plant.now in
    let below : c.loop-n.n < c.args.own * length c.args.extents.now = c.loop-n-test.true in
    let some : 0 < length c.args.extents.now = some_factor c.args.own (length c.args.extents.now) c.loop-n.n below in
    omega (arith, div_below c.loop-n.n (length c.args.extents.now) c.args.own some below, c.requires.own, own_few p (sound_plant p c.args.of.now.sampled.within.plant) c.args.of.now.state c.args.of.now.equation)

pub loop-n-preserved : goal.loop-n-preserved
loop-n-preserved c =
    let p = c.args.of.now.sampled.plant.now in
    let extents = c.args.extents.now in
    let n : ℕ = c.loop-n.n in
    let x : Option CellBox = c.term_of.result in
    let so_far = c.loop-n.invariant in
    let last : n - n ≡ 0 = omega arith in
    rw c.in_ok-push.ensures.items
    (record {
      long = omega (arith, length-append c.loop-n.terms.items (x ∷ []), so_far.long);
      each = below_more (λ (m : ℕ). IsTermFrom p c.args.of.now.state (m / length extents) (get_or extents (m % length extents) None) (get_or (c.loop-n.terms.items ++ x ∷ []) m None)) n
          (λ m lt. subst (IsTermFrom p c.args.of.now.state (m / length extents) (get_or extents (m % length extents) None)) (sym (get_or_append_left c.loop-n.terms.items (x ∷ []) None m (omega (arith, lt, so_far.long)))) (so_far.each m lt))
          (subst (IsTermFrom p c.args.of.now.state (n / length extents) (get_or extents (n % length extents) None)) (sym (get_or-append_right c.loop-n.terms.items (x ∷ []) n n None so_far.long (omega arith) ∙ ap (λ (k : ℕ). get_or (x ∷ []) k None) last)) c.term_of.ensures);
    })

pub returns-clause-each : goal.returns-clause-each
returns-clause-each c = λ o k own_below below.
    let p = c.args.of.now.sampled.plant.now in
    let extents = c.args.extents.now in
    let n : ℕ = length extents in
    let m : ℕ = o * n + k in
    let found = c.loop-n.invariant.each m (omega (arith, mul-add-lt o n k c.args.own own_below below, c.loop-n-test.false)) in
    let extent : get_or extents (m % n) None ≡ get_or extents k None = ap (λ (j : ℕ). get_or extents j None) (mod-mul-add o n k below) in
    subst (λ (indices : ℕ). IsTermFrom p c.args.of.now.state indices (get_or extents k None) (get_or c.loop-n.terms.items m None)) (div-mul-add o n k below)
    (subst (λ s. IsTermFrom p c.args.of.now.state (m / n) s (get_or c.loop-n.terms.items m None)) extent found)
