use Rattle.std.proofs.Common.{[], ◌∷◌, arith}
use Rattle.line_words.specs.Tokens.{goes_on}
use Rattle.line_words.proofs.lemmas.Positions.{failing_or_len}
use Rattle.line_words.proofs.tokens.more_of_token.Goals as goal

pub returns-clause-more : goal.returns-clause-more
returns-clause-more c = grind (arith, failing_or_len (goes_on (c.args.first ∷ [])) c.args.after.now)
