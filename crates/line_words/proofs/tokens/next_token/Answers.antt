use Rattle.line_words.proofs.lemmas.FirstTokens.{token_found, no_token}
use Rattle.line_words.proofs.tokens.next_token.Goals as goal

pub returns-in_err-first-clause-tokens : goal.returns-in_err-first-clause-tokens
returns-in_err-first-clause-tokens c =
    rw c.from_residual.ensures (no_token c.args.bytes.now c.split_at.result.1.now c.blanks_before.result c.blanks_before.ensures.blanks c.split_at.ensures.back c.in_err-first.ensures.cases)

pub returns-clause-tokens : goal.returns-clause-tokens
returns-clause-tokens c =
    token_found c.args.bytes.now c.split_at.result.1.now c.in_ok-first.after.now c.split_at-2.result.0.now c.split_at-2.result.1.now c.blanks_before.result c.more_of_token-end.result c.in_ok-first.first.now
    c.blanks_before.ensures.blanks c.split_at.ensures.back c.in_ok-first.ensures.cases.0 c.more_of_token-end.ensures.more c.split_at-2.ensures.front c.split_at-2.ensures.back
