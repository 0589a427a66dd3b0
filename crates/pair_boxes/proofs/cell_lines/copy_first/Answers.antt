use Rattle.std.proofs.Common.{◌≡◌, ℕ, ◌+◌, ◌-◌, ◌*◌, ◌∙◌, None, get_or, below_more, refl, ap, arith}
use Rattle.std.proofs.lemmas.Nat.{row_fits}
use Rattle.pair_boxes.proofs.cell_lines.copy_first.Goals as goal

pub loop-cell-init : goal.loop-cell-init
loop-cell-init c = record {
  long = refl;
  copied = λ k u lt input.
      let first : k ≡ 0 = omega (arith, lt) in
      let here : k * c.args.inputs + u ≡ u = omega (arith, ap (λ (n : ℕ). n * c.args.inputs) first) in
      ap (λ (i : ℕ). get_or c.args.boxes.now i None) here;
}

pub loop-cell-preserved : goal.loop-cell-preserved
loop-cell-preserved c =
    let v : ℕ = c.args.inputs in
    let cell : ℕ = c.loop-cell.cell in
    let so_far = c.loop-cell.invariant in
    let copied = c.copy_within.ensures.by_index in
    record {
      long = c.copy_within.ensures.len ∙ so_far.long;
      copied = λ k u lt input. below_more (λ (k : ℕ). get_or c.copy_within.new.self (k * v + u) None ≡ get_or c.args.boxes.now u None) cell
          (λ k lt. copied.1 (k * v + u) None (omega (arith, row_fits k v cell v lt (omega arith), input)) ∙ so_far.copied k u lt input)
          (let first : 0 + (cell * v + u - cell * v) ≡ 0 * v + u = omega arith in
          copied.0 (cell * v + u) None (omega arith) (omega (arith, input)) ∙ ap (λ (i : ℕ). get_or c.loop-cell.boxes i None) first ∙ so_far.copied 0 u (omega (arith, c.loop-cell.auto.cell)) input)
          k lt;
    }
