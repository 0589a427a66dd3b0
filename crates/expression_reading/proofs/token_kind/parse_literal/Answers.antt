use Rattle.std.proofs.Common.{◌≡◌, ◌∙◌, ap, sym, arith, rules}
use Rattle.std.specs.Prelude.{ℕ, Some, FitsSigned, nat_abs}
use Rattle.std.specs.Int.{w64}
use Rattle.std.proofs.lemmas.Int.{to_z-of_z, ints}
use Rattle.expression_reading.proofs.lemmas.Literals.{literal_written, unspelled, below_zero}
use Rattle.expression_reading.proofs.token_kind.parse_literal.Goals as goal

pub returns-in_err-z : goal.returns-in_err-z
returns-in_err-z c = c.from_residual.ensures ∙ sym (unspelled c.args.token.now c.in_err-z.ensures)

pub returns-then-z-lt0 : goal.returns-then-z-lt0
returns-then-z-lt0 c = sym (below_zero c.args.token.now c.in_ok-z.z c.in_ok-z.ensures (omega (arith, ints, c.if-z-lt0.true)))

pub returns : goal.returns
returns c =
    let fits : FitsSigned w64 c.in_ok-z.z = search rules in
    let value : c.unsigned_abs.result ≡ nat_abs c.in_ok-z.z = c.unsigned_abs.ensures.value ∙ ap nat_abs (to_z-of_z w64 c.in_ok-z.z fits) in
    ap (λ (k : ℕ). Some k) value ∙ sym (literal_written c.args.token.now c.in_ok-z.z (omega (arith, ints, c.if-z-lt0.false)) c.in_ok-z.ensures.0 c.in_ok-z.ensures.1)
