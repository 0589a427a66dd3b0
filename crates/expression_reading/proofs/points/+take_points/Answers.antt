use Rattle.std.proofs.Common.{◌≡◌, ◌<◌, ◌-◌, arith, drop, take, ◌∷◌, length, get_or, rules}
use Rattle.expression_reading.specs.declared.token_kind.TokenKind.TheVariants as kind
use Rattle.expression_reading.proofs.lemmas.ReadingSteps.{headed, more_points}
use Rattle.expression_reading.proofs.points.+take_points.Goals as goal

pub returns-in_ok-push-in-Comma-clause-points : goal.returns-in_ok-push-in-Comma-clause-points
returns-in_ok-push-in-Comma-clause-points t c =
    let some : 0 < c.args.limit = omega (arith, c.if-limit-gt0.true) in
    let comma : get_or c.args.tokens.now 0 (kind.Number 0) ≡ kind.Comma = search rules in
    let is : c.args.tokens.now ≡ kind.Comma ∷ take (length c.args.tokens.now - 1) (drop 1 c.args.tokens.now) = headed c.args.tokens.now kind.Comma comma c.in-Comma.len_at_least in
    rw (is, more_points c.args.limit c.args.points.items (take (length c.args.tokens.now - 1) (drop 1 c.args.tokens.now)) some, c.in_ok-point-in-Comma.ensures.point, ← c.in_ok-push-in-Comma.ensures.items) c.take_points.ensures.points
