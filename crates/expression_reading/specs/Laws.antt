-- What holds of the tokens of every expression.
use Rattle.std.specs.Prelude.{◌≡◌, ◌≢◌, ◌⊎◌, ℕ, List, AllPairs}
use Rattle.std.specs.List.{All}
use Rattle.fixed_expr.specs.Expression.{Expression}
use Rattle.line_words.specs.Names.{IsName}
use Rattle.expression_reading.specs.SyntaxTrees.{AreTokensOf}

-- tokens spell one expression at most
abbrev pub OneExpression : Type 0
OneExpression =
    (names tokens : List (List ℕ)) (e f : Expression) → AllPairs (λ a b. a ≢ b) names → All IsName names → AreTokensOf names tokens e → AreTokensOf names tokens f → e ≡ f

-- they spell one or they spell none
abbrev pub ExpressionOrNone : Type 0
ExpressionOrNone =
    (names tokens : List (List ℕ)) → AllPairs (λ a b. a ≢ b) names → All IsName names → ((e : Expression) × AreTokensOf names tokens e) ⊎ ((e : Expression) → AreTokensOf names tokens e → ⊥)
