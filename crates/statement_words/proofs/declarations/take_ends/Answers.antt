use Rattle.std.proofs.Common.{◌∷◌}
use Rattle.std.specs.Fmt.{signed_decimal}
use Rattle.std.proofs.lemmas.Bool.{iff_false}
use Rattle.line_words.specs.Words.{words_of}
use Rattle.line_words.specs.WordReaders.{StartsWithNumber}
use Rattle.statement_words.specs.LineReaders.{StartsWithEnds}
use Rattle.line_words.proofs.lemmas.RefusalsPassOn.{exits_in_place}
use Rattle.line_words.proofs.lemmas.NumberWords.{whole}
use Rattle.statement_words.proofs.lemmas.WordsSpellOne.{no_ends}
use Rattle.statement_words.proofs.declarations.take_ends.Goals as goal

pub returns-in_err-low : goal.returns-in_err-low
returns-in_err-low c =
    exits_in_place (λ x. ((x.0, x.1), words_of x.2.now)) (StartsWithEnds (words_of c.args.bytes.now)) (StartsWithNumber (words_of c.args.bytes.now)) c.in_err-low.field-0.0 _ c.from_residual.ensures.1 c.in_err-low.ensures
    (λ y h. ((y.0.0, signed_decimal y.0.1 ∷ y.1), (h.0.0, h.1)))

pub returns-in_err-high : goal.returns-in_err-high
returns-in_err-high c =
    exits_in_place (λ x. ((x.0, x.1), words_of x.2.now)) (StartsWithEnds (words_of c.args.bytes.now)) (StartsWithNumber (words_of c.in_ok-low.rest.now)) c.in_err-high.field-0.0 _ c.from_residual-in_err-high.ensures.1 c.in_err-high.ensures
    (λ y h. ((y.0.1, y.1), (h.0.1, cc (h.1, c.in_ok-low.ensures.1))))

pub returns-then-not-is_ordered : goal.returns-then-not-is_ordered
returns-then-not-is_ordered c =
    no_ends (words_of c.args.bytes.now) (words_of c.in_ok-low.rest.now) (words_of c.in_ok-high.rest.now) c.in_ok-low.low c.in_ok-high.high c.in_ok-low.ensures c.in_ok-high.ensures
    (λ le. iff_false c.is_ordered.ensures c.if-not-is_ordered.true (rw (whole c.in_ok-low.low c.in_ok-low.ensures.0, whole c.in_ok-high.high c.in_ok-high.ensures.0) le))
