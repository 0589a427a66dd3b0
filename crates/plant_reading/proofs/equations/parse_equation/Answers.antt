use Rattle.std.proofs.Common.{◌≡◌, ℕ, List, length}
use Rattle.std.specs.Prelude.{Result, Ok, Err, IfOk}
use Rattle.fixed_expr.specs.declared.expr.Expr.{Expr}
use Rattle.fixed_expr.specs.Expression.{expression_of}
use Rattle.line_words.specs.declared.line_fault.LineFault.{LineFault}
use Rattle.line_words.specs.LineTokens.{tokens_in}
use Rattle.plant_record.specs.Parts.{variable_names}
use Rattle.expression_reading.specs.declared.token_kind.TokenKind.{TokenKind}
use Rattle.expression_reading.specs.KindTrees.{AreKindsOf}
use Rattle.expression_reading.specs.SyntaxTrees.{AreTokensOf}
use Rattle.expression_reading.specs.TokenKinds.{AreNames, kinds_among}
use Rattle.expression_reading.proofs.lemmas.TreeKinds.{to_kinds, from_kinds}
use Rattle.plant_reading.proofs.equations.parse_equation.Goals as goal

-- an expression of the kinds of tokens is one of the tokens
of_tokens : (names tokens : List (List ℕ)) (kinds : List TokenKind) (m : ℕ) (r : Result Expr LineFault) → AreNames names → m ≡ length names → kinds ≡ kinds_among names tokens → IfOk r (λ e. AreKindsOf m kinds (expression_of e))
    → IfOk r (λ e. AreTokensOf names tokens (expression_of e))
of_tokens names tokens kinds m (Ok e) ok count are h = from_kinds names ok tokens (expression_of e) (rw (count, are) at h)
of_tokens names tokens kinds m (Err f) ok count are h = tt

pub returns-clause-found : goal.returns-clause-found
returns-clause-found c =
    let names = variable_names c.args.variables.now in
    let tokens = tokens_in c.args.bytes.now in
    let are : c.deref.result.now ≡ kinds_among names tokens = rw c.deref.ensures.value c.in_ok-kinds.ensures in
    of_tokens names tokens c.deref.result.now c.count_of.result c.parse_expression.result (record { each = c.requires.names; differ = c.requires.differ }) c.count_of.ensures are c.parse_expression.ensures.found

pub returns-clause-refused : goal.returns-clause-refused
returns-clause-refused c = λ malformed e h.
    let names = variable_names c.args.variables.now in
    let tokens = tokens_in c.args.bytes.now in
    let are : c.deref.result.now ≡ kinds_among names tokens = rw c.deref.ensures.value c.in_ok-kinds.ensures in
    c.parse_expression.ensures.refused malformed e (rw (c.count_of.ensures, are) (to_kinds names (record { each = c.requires.names; differ = c.requires.differ }) tokens e h))
