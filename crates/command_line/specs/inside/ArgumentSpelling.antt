-- Words that spell numbers.
use Rattle.std.specs.Prelude.{◌≡◌, ℕ, ℤ, List, map}
use Rattle.std.specs.List.{All}
use Rattle.std.specs.Fmt.{signed_decimal}
use Rattle.line_words.specs.Numbers.{IsLiteral}

-- Words that are the spellings of these numbers, each of at most 18 digits.
pub record Spell (arguments : List (List ℕ)) (numbers : List ℤ) : Type 0 where
  pub spelled : arguments ≡ map signed_decimal numbers
  pub each : All IsLiteral numbers
