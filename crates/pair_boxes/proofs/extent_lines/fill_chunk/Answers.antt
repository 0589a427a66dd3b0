use Rattle.std.proofs.Common.{◌≡◌, ℕ, ◌+◌, ◌-◌, ◌<◌, ◌≤◌, ◌∙◌, None, length, take, drop, get_or, sym, subst, subst₂, arith, rules, inl, inr}
use borrow.Rule.Slice.PartMut.{put_mid}
use Rattle.std.proofs.lemmas.Bool.{cases_lt}
use Rattle.std.proofs.lemmas.List.{places}
use Rattle.pair_boxes.specs.inside.ExtentTables.{IsExtentFor}
use Rattle.pair_boxes.proofs.extent_lines.fill_chunk.Goals as goal

pub loop-done-preserved : goal.loop-done-preserved
loop-done-preserved c =
    let p = c.args.of.now.sampled.plant.now in
    let digits = c.args.digits.now.each.items in
    let chunk = c.loop-done.chunk in
    let done : ℕ = c.loop-done.done in
    let size : ℕ = c.min-end.result - done in
    let found = c.fill_line.new.line in
    let so_far = c.loop-done.invariant in
    let up_to : c.min-end.result ≤ length chunk = omega (arith, c.min-end.ensures) in
    let within : done + size ≤ length chunk = omega (arith, up_to, so_far.within) in
    let part : length (take size (drop done chunk)) ≡ size = search (rules, places) in
    let long : length found ≡ size = c.fill_line.ensures.long ∙ part in
    let all : length (put_mid done size chunk found) ≡ length chunk = search (rules, places) in
    record {
      long = all ∙ so_far.long;
      within = omega (arith, up_to, all);
      each = λ j lt. elim (cases_lt j done) [
        | inl before ↦
            let same : get_or (put_mid done size chunk found) j None ≡ get_or chunk j None = search (rules, places) in subst (IsExtentFor p c.args.of.now.state digits (c.args.slot + j)) (sym same) (so_far.each j before)
        | inr past ↦
            let i : ℕ = j - done in
            let inside : i < size = omega (arith, past, lt) in
            let read : get_or (put_mid done size chunk found) (done + i) None ≡ get_or found i None = search (rules, places) in
            let at : done + i ≡ j = omega (arith, past) in
            let slot : c.args.slot + done + i ≡ c.args.slot + (done + i) = omega arith in
            subst (λ (n : ℕ). IsExtentFor p c.args.of.now.state digits (c.args.slot + n) (get_or (put_mid done size chunk found) n None)) at
            (subst₂ (IsExtentFor p c.args.of.now.state digits) slot (sym read) (c.fill_line.ensures.each i (omega (arith, inside, long))))
      ];
    }
