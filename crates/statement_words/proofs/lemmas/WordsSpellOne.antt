-- What the words of a line spell, piece by piece: each spells one thing.
use Rattle.std.proofs.Common.{◌≡◌, ℕ, List, [], ◌∷◌}
use Rattle.std.specs.Prelude.{ℤ, ◌≤ℤ◌}
use Rattle.std.specs.Fmt.{signed_decimal}
use Rattle.line_words.specs.Numbers.{IsLiteral}
use Rattle.line_words.specs.WordReaders.{StartsWithNumber}
use Rattle.statement_words.specs.LineReaders.{StartsWithEnds, SpellsCells, HasWholeCells}
use Rattle.line_words.proofs.lemmas.NumberWords.{one_number}

-- numbers that are read one after the other, and are out of order, are no ends
pub no_ends : (words rest others : List (List ℕ)) (low high : ℤ) → StartsWithNumber words (low, rest) → StartsWithNumber rest (high, others) → (low ≤ℤ high → ⊥) → (y : (ℤ × ℤ) × List (List ℕ)) → StartsWithEnds words y → ⊥
no_ends words rest others low high l h out y e =
    let low-is : y.0.0 ≡ low = one_number y.0.0 low e.0.0 l.0 (cc (e.1, l.1)) in
    let high-is : y.0.1 ≡ high = one_number y.0.1 high e.0.1 h.0 (cc (e.1, l.1, h.1)) in
    out (rw (low-is, high-is) at e.0.2)

-- the same of a state's range and width that make no whole cells
pub no_cells : (words : List (List ℕ)) (low high width : ℤ) → words ≡ signed_decimal low ∷ signed_decimal high ∷ signed_decimal width ∷ [] → IsLiteral low → IsLiteral high → IsLiteral width
    → (HasWholeCells low high width → ⊥) → (y : ℤ × ℤ × ℤ) → SpellsCells words y → ⊥
no_cells words low high width e l h w out y spelled =
    let low-is : y.0 ≡ low = one_number y.0 low spelled.1.0 l (cc (e, spelled.0)) in
    let high-is : y.1 ≡ high = one_number y.1 high spelled.1.1 h (cc (e, spelled.0)) in
    let width-is : y.2 ≡ width = one_number y.2 width spelled.2 w (cc (e, spelled.0)) in
    out (rw (low-is, high-is, width-is) at spelled.3)
