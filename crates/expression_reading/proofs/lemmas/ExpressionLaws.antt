-- Tokens spell one expression or none.
use Rattle.std.proofs.Common.{◌≡◌, ◌⊎◌, Option, Some, None, refl, sym, ◌∙◌, inl, inr}
use Rattle.fixed_expr.specs.Expression.{Expression}
use Rattle.expression_reading.specs.Laws.{OneExpression, ExpressionOrNone}
use Rattle.expression_reading.specs.SyntaxTrees.{AreTokensOf}
use Rattle.expression_reading.specs.TokenKinds.{AreNames}
use Rattle.expression_reading.proofs.lemmas.ExpressionsRead.{read, read_is_spelled, spelled_is_read, none_spelled}

pub one_expression : OneExpression
one_expression names tokens e f differ named h k = same (sym (spelled_is_read names tokens ok e h) ∙ spelled_is_read names tokens ok f k)
  where
    ok : AreNames names
    ok = record { each = named; differ = differ }

    same : Some e ≡ Some f → e ≡ f
    same s = cc

pub expression_or_none : ExpressionOrNone
expression_or_none names tokens differ named = by (read names tokens ok) refl
  where
    ok : AreNames names
    ok = record { each = named; differ = differ }

    by : (o : Option Expression) → read names tokens ok ≡ o → ((e : Expression) × AreTokensOf names tokens e) ⊎ ((e : Expression) → AreTokensOf names tokens e → ⊥)
    by (Some e) h = inl (e, read_is_spelled names tokens ok e h)
    by None h = inr (none_spelled names tokens ok h)
