use Rattle.std.proofs.Common.{◌≡◌, [], ◌∷◌}
use Rattle.std.specs.Fmt.{signed_decimal}
use Rattle.line_words.specs.Words.{words_of}
use Rattle.line_words.specs.WordReaders.{StartsWithName}
use Rattle.statement_words.specs.LineReaders.{SpellsNoise, StartsWithEnds}
use Rattle.line_words.proofs.lemmas.RefusalsPassOn.{exits_from_place}
use Rattle.statement_words.proofs.declarations.parse_noise.Goals as goal

pub returns-in_err-name : goal.returns-in_err-name
returns-in_err-name c =
    exits_from_place (λ w. w) (SpellsNoise (words_of c.args.bytes.now)) (StartsWithName (words_of c.args.bytes.now)) c.in_err-name.field-0.0 _ c.from_residual.ensures.1 c.in_err-name.ensures
    (λ w h. ((w.name, signed_decimal w.low ∷ signed_decimal w.high ∷ []), (h.1.name, h.0)))

pub returns-in_err-low : goal.returns-in_err-low
returns-in_err-low c =
    exits_from_place (λ w. w) (SpellsNoise (words_of c.args.bytes.now)) (StartsWithEnds (words_of c.in_ok-name.rest.now)) c.in_err-low.field-0.0 _ c.from_residual-in_err-low.ensures.1 c.in_err-low.ensures
    (λ w h. (((w.low, w.high), []), ((h.1.low, h.1.high, h.1.ordered), cc (h.0, c.in_ok-name.ensures.1))))

pub returns-in_err-expect_end : goal.returns-in_err-expect_end
returns-in_err-expect_end c =
    exits_from_place (λ w. w) (SpellsNoise (words_of c.args.bytes.now)) (λ (_ : Unit {0}). words_of c.in_ok-low.rest.now ≡ []) c.in_err-expect_end.field-0.0 _ c.from_residual-in_err-expect_end.ensures.1 c.in_err-expect_end.ensures
    (λ w h. (tt, cc (h.0, c.in_ok-name.ensures.1, c.in_ok-low.ensures.1)))
