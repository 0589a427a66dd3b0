-- Numbers that are read one after the other.
use Rattle.std.proofs.Common.{◌≡◌, ℕ, List, [], ◌∷◌, ◌++◌, map, sym, ◌∙◌}
use Rattle.std.specs.Prelude.{ℤ}
use Rattle.std.specs.List.{All}
use Rattle.std.specs.Fmt.{signed_decimal}
use Rattle.std.proofs.lemmas.List.Elements.{All-head, All-tail}
use Rattle.line_words.specs.Numbers.{IsLiteral}
use Rattle.statement_words.specs.LineReaders.{SpellsValues}

-- The numbers after those that have been read.
pub record AreAfter (ws : List (List ℕ)) : Type 0 where
  pub more : List ℤ
  pub words : ws ≡ map signed_decimal more
  pub each : All IsLiteral more

after_values : (zs ys : List ℤ) (ws : List (List ℕ)) → map signed_decimal zs ++ ws ≡ map signed_decimal ys → All IsLiteral ys → AreAfter ws
after_values [] ys ws e each = record { more = ys; words = e; each = each }
after_values (z ∷ zs) [] ws e each = absurd cc
after_values (z ∷ zs) (y ∷ ys) ws e each =
    let rest : AreAfter ws = after_values zs ys ws (cc) (All-tail IsLiteral y ys each) in
    record { more = rest.more; words = rest.words; each = rest.each }

-- where a word is left, a number is left
next_of : (more : List ℤ) (w : List ℕ) (others : List (List ℕ)) → w ∷ others ≡ map signed_decimal more → All IsLiteral more → (z : ℤ) × (IsLiteral z × (w ≡ signed_decimal z))
next_of [] w others e each = absurd cc
next_of (z ∷ more) w others e each = (z, (All-head IsLiteral z more each, cc))

pub next_value : (words ws others : List (List ℕ)) (w : List ℕ) (zs : List ℤ) → words ≡ map signed_decimal zs ++ ws → ws ≡ w ∷ others → (ys : List ℤ) → SpellsValues words ys → (z : ℤ) × (IsLiteral z × (w ≡ signed_decimal z))
next_value words ws others w zs e f ys h =
    let rest = after_values zs ys ws (sym e ∙ h.0) h.3 in
    next_of rest.more w others (sym f ∙ rest.words) rest.each
