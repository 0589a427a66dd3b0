-- What the reader of expressions returns.
use Rattle.std.proofs.Common.{◌≡◌, ℕ, true, false, eqb, List, length, Option, Some, None, refl}
use Rattle.fixed_expr.specs.Expression.{Expression}
use Rattle.line_words.specs.declared.line_fault.LineFault.{LineFault}
use Rattle.line_words.specs.declared.line_fault.LineFault.TheVariants as faults
use Rattle.line_words.specs.WordReaders.{Refuses}
use Rattle.expression_reading.specs.declared.token_kind.TokenKind.{TokenKind}
use Rattle.expression_reading.specs.KindTrees.{AreKindsOf}
use Rattle.expression_reading.specs.SyntaxTrees.{AreTokensOf}
use Rattle.expression_reading.specs.TokenKinds.{AreNames, kinds_among}
use Rattle.expression_reading.specs.inside.ExpressionReading.{Fails, sum_of, read_at, whole}
use Rattle.expression_reading.proofs.lemmas.ReadIsSpelled.{whole_takes}
use Rattle.expression_reading.proofs.lemmas.SpelledIsRead.{whole_again}
use Rattle.expression_reading.proofs.lemmas.TreeKinds.{to_kinds, from_kinds}

module _ (m : ℕ) (ts : List TokenKind) where
  pub none_of_kinds : whole m ts ≡ None → (e : Expression) → AreKindsOf m ts e → ⊥
  none_of_kinds none e h = let some : whole m ts ≡ Some e = whole_again m ts e h in absurd cc

  -- a sum with no token after it is the whole, and one with some isn't
  pub sum_is_whole : (e : Expression) (rest : List TokenKind) → sum_of m (read_at m 320) 64 ts ≡ Some (e, rest) → eqb (length rest) 0 ≡ true → AreKindsOf m ts e
  unfolding whole
  sum_is_whole e rest sum ended = whole_takes m ts e (rw (sum, ended) refl)

  pub tokens_left : (e : Expression) (rest : List TokenKind) → sum_of m (read_at m 320) 64 ts ≡ Some (e, rest) → eqb (length rest) 0 ≡ false → (f : Expression) → AreKindsOf m ts f → ⊥
  unfolding whole
  tokens_left e rest sum more = none_of_kinds (rw (sum, more) refl)

  pub no_sum : (f : LineFault) → Fails f (sum_of m (read_at m 320) 64 ts) → Refuses (AreKindsOf m ts) f
  unfolding whole
  no_sum faults.Malformed none = none_of_kinds (rw none refl)
  no_sum faults.Memory none = tt

module _ (names : List (List ℕ)) (tokens : List (List ℕ)) (ok : AreNames names) where
  -- what the tokens are read as
  abbrev pub read : Option Expression
  read = whole (length names) (kinds_among names tokens)

  pub read_is_spelled : (e : Expression) → read ≡ Some e → AreTokensOf names tokens e
  read_is_spelled e h = from_kinds names ok tokens e (whole_takes (length names) (kinds_among names tokens) e h)

  pub spelled_is_read : (e : Expression) → AreTokensOf names tokens e → read ≡ Some e
  spelled_is_read e h = whole_again (length names) (kinds_among names tokens) e (to_kinds names ok tokens e h)

  pub none_spelled : read ≡ None → (e : Expression) → AreTokensOf names tokens e → ⊥
  none_spelled none e h = none_of_kinds (length names) (kinds_among names tokens) none e (to_kinds names ok tokens e h)
