-- The boxes of the pairs, pair by pair.
use Rattle.std.proofs.Common.{◌≡◌, ℕ, ◌+◌, ◌-◌, ◌*◌, ◌/◌, ◌%◌, ◌<◌, ◌≤◌, List, Option, None, length, min, get_or, ap, subst₂, ◌∙◌, arith, inl, inr}
use Rattle.std.proofs.Math.Nat.{mul_assoc, add-mul, one-mul, div-add-mod'}
use Rattle.std.proofs.lemmas.Bool.{cases_lt}
use Rattle.std.proofs.lemmas.Nat.{div-mul-add, mul-le}
use Rattle.grid_quantiser.specs.declared.boxes.CellBox.{CellBox}
use Rattle.plant_record.specs.Description.{Description, vectors_of}
use Rattle.successor_box.specs.SuccessorBoxes.{IsBoxOf}
use Rattle.pair_box.specs.PlantBoxes.{pair_of_plant}
use Rattle.pair_boxes.specs.CellsFrom.{AreBoxesFrom}
use Rattle.pair_boxes.proofs.CellLineLists.{range, cell_before}

-- the cell at which a chunk of whole cells begins
first_cell : (start m v : ℕ) → 0 < v → start % (m * v) ≡ 0 → (start ≡ start / (m * v) * m * v) × (start / v ≡ start / (m * v) * m)
first_cell start m v some multiple =
    let first : ℕ = start / (m * v) * m in
    let begins : start ≡ first * v = omega (arith, div-add-mod' start (m * v), multiple, mul_assoc (start / (m * v)) m v) in
    (begins, ap (λ (i : ℕ). i / v) (begins ∙ (let e : first * v ≡ first * v + 0 = omega arith in e)) ∙ div-mul-add first v 0 some)

-- a pair whose box lies in a chunk of boxes has it
pub box_in_chunk : (p : Description) (m start offset c u : ℕ) (chunk : List (Option CellBox)) (b : Option CellBox) → u < vectors_of p.inputs → start % (m * vectors_of p.inputs) ≡ 0 →
    start + offset ≡ pair_of_plant p c u → offset < length chunk → AreBoxesFrom p (start / vectors_of p.inputs) chunk → get_or chunk offset None ≡ b → IsBoxOf p c u b
box_in_chunk p m start offset c u chunk b input multiple there inside boxes is =
    let v : ℕ = vectors_of p.inputs in
    let first : ℕ = start / (m * v) * m in
    let at = first_cell start m v (omega (arith, input)) multiple in
    let next : (c + 1) * v ≡ c * v + v = omega (arith, add-mul c 1 v, one-mul v) in
    let earlier : first < c + 1 = cell_before first (c + 1) v 0 (omega (arith, at.0, there, next, input)) in
    let k : ℕ = c - first in
    let cells : first + k ≡ c = omega (arith, earlier) in
    let slot : k * v + u ≡ offset = omega (arith, at.0, there, add-mul first k v, ap (λ (i : ℕ). i * v) cells) in
    subst₂ (λ (a : ℕ) (b : Option CellBox). IsBoxOf p a u b) (ap (λ (i : ℕ). i + k) at.1 ∙ cells) (ap (λ (i : ℕ). get_or chunk i None) slot ∙ is)
    (boxes k u input (omega (arith, slot, inside)))

-- a chunk is the boxes of whole cells
pub chunk_cells : (start len m v cells : ℕ) → 0 < v → 0 < m → 0 < len → start % (m * v) ≡ 0 → len ≡ min (m * v) (cells * v - start) → start + len ≤ cells * v → (n : ℕ) × (len ≡ n * v) × (start / v + n ≤ cells)
chunk_cells start len m v cells some_input some nonempty multiple len-is bound =
    let first : ℕ = start / (m * v) * m in
    let begins = (first_cell start m v some_input multiple).0 in
    let quotient = (first_cell start m v some_input multiple).1 in
    let earlier : first < cells = cell_before first cells v 0 (omega (arith, begins, bound, nonempty)) in
    let rest : cells * v - first * v ≡ (cells - first) * v = range first cells v earlier in
    elim (cases_lt (first + m) cells) [
      | inl full ↦ (m, omega (arith, len-is, begins, rest, mul-le m v (cells - first) v (omega (arith, full)) (omega arith)), omega (arith, quotient, full))
      | inr short ↦
          (cells - first, omega (arith, len-is, begins, rest, mul-le (cells - first) v m v (omega (arith, short)) (omega arith)), omega (arith, quotient, earlier))
    ]
