use Rattle.std.proofs.Common.{◌≡◌, ◌∙◌, false, eqb, sym, arith, rules}
use Rattle.std.proofs.lemmas.Bool.{ne_eqb}
use Rattle.expression_reading.specs.declared.token_kind.TokenKind.TheVariants as kind
use Rattle.expression_reading.specs.inside.ExpressionReading.{after_sum, after_term, read_at, step}
use Rattle.expression_reading.proofs.lemmas.ReadingSteps.{no_bracket, headed, rest_of_sum, rest_of_term, no_sign, sign_more}
use Rattle.expression_reading.proofs.expression.+descent.Goals as goal

pub after_sum-loop-tokens-preserved-in-Plus-1 : goal.after_sum-loop-tokens-preserved-in-Plus-1
unfolding after_sum
after_sum-loop-tokens-preserved-in-Plus-1 t c =
    let is = headed c.loop-tokens.tokens.now kind.Plus (search rules) c.in-Plus.len_at_least in
    (rw (is, c.in_ok-term-in-Plus.ensures, c.in_ok-sum-in-Plus.ensures, rest_of_sum _ _ _ _ c.in_ok-budget-in-Plus.ensures) at c.loop-tokens.invariant.0, omega arith)

pub after_sum-loop-tokens-preserved : goal.after_sum-loop-tokens-preserved
unfolding after_sum
after_sum-loop-tokens-preserved t c =
    let is = headed c.loop-tokens.tokens.now kind.Minus (search rules) c.in-Minus.len_at_least in
    (rw (is, c.in_ok-term-in-Minus.ensures, c.in_ok-sum-in-Minus.ensures, rest_of_sum _ _ _ _ c.in_ok-budget-in-Minus.ensures) at c.loop-tokens.invariant.0, omega arith)

pub after_term-loop-tokens-preserved-in-Star-1 : goal.after_term-loop-tokens-preserved-in-Star-1
unfolding after_term
after_term-loop-tokens-preserved-in-Star-1 t c =
    let is = headed c.loop-tokens.tokens.now kind.Star (search rules) c.in-Star.len_at_least in
    (rw (is, c.in_ok-factor-in-Star.ensures, c.in_ok-term-in-Star.ensures, rest_of_term _ _ _ _ c.in_ok-budget-in-Star.ensures) at c.loop-tokens.invariant.0, omega arith)

pub after_term-loop-tokens-preserved : goal.after_term-loop-tokens-preserved
unfolding after_term
after_term-loop-tokens-preserved t c =
    let is = headed c.loop-tokens.tokens.now kind.Slash (search rules) c.in-Slash.len_at_least in
    (rw (is, c.in_ok-k-in-Slash.ensures.number, c.in_ok-term-in-Slash.ensures, rest_of_term _ _ _ _ c.in_ok-budget-in-Slash.ensures) at c.loop-tokens.invariant.0, omega arith)

pub inside-returns-then-budget-eq0 : goal.inside-returns-then-budget-eq0
inside-returns-then-budget-eq0 t c = no_bracket _ _ _ _ (omega arith)

pub inside-returns : goal.inside-returns
unfolding read_at step
inside-returns t c =
    let below = c.in_ok-below.ensures in
    let opened : eqb c.args.budget.brackets 0 ≡ false = ne_eqb c.args.budget.brackets 0 (λ e. omega arith) in
    rw (below.1, below.0, opened, below.2) (rw c.inside.ensures at c.take_sum.ensures)

pub take_factor-loop-tokens-init : goal.take_factor-loop-tokens-init
take_factor-loop-tokens-init t c = (no_sign _, omega arith)

pub take_factor-loop-tokens-preserved : goal.take_factor-loop-tokens-preserved
take_factor-loop-tokens-preserved t c =
    let is = headed c.loop-tokens.tokens.now kind.Minus (search rules) c.in-Minus.len_at_least in
    (sym (sign_more _ _ _ _ c.in_ok-budget.ensures) ∙ rw is at c.loop-tokens.invariant.0, omega arith)
