use Rattle.std.proofs.Common.{◌≡◌, [], ◌∷◌}
use Rattle.std.specs.Fmt.{signed_decimal}
use Rattle.std.proofs.lemmas.Bool.{iff_false}
use Rattle.line_words.specs.Words.{words_of}
use Rattle.line_words.specs.WordReaders.{StartsWithNumber}
use Rattle.statement_words.specs.LineReaders.{StartsWithEnds, SpellsCells}
use Rattle.line_words.proofs.lemmas.RefusalsPassOn.{exits_in_place}
use Rattle.line_words.proofs.lemmas.NumberWords.{whole}
use Rattle.statement_words.proofs.lemmas.WordsSpellOne.{no_cells}
use Rattle.statement_words.proofs.declarations.parse_axis.Goals as goal

pub returns-in_err-low : goal.returns-in_err-low
returns-in_err-low c =
    exits_in_place (λ r. (r.0, r.1, r.2)) (SpellsCells (words_of c.args.bytes.now)) (StartsWithEnds (words_of c.args.bytes.now)) c.in_err-low.field-0.0 _ c.from_residual.ensures.1 c.in_err-low.ensures
    (λ y h. (((y.0, y.1), signed_decimal y.2 ∷ []), (h.1, h.0)))

pub returns-in_err-width : goal.returns-in_err-width
returns-in_err-width c =
    exits_in_place (λ r. (r.0, r.1, r.2)) (SpellsCells (words_of c.args.bytes.now)) (StartsWithNumber (words_of c.in_ok-low.rest.now)) c.in_err-width.field-0.0 _ c.from_residual-in_err-width.ensures.1 c.in_err-width.ensures
    (λ y h. ((y.2, []), (h.2, cc (h.0, c.in_ok-low.ensures.1))))

pub returns-in_err-expect_end : goal.returns-in_err-expect_end
returns-in_err-expect_end c =
    exits_in_place (λ r. (r.0, r.1, r.2)) (SpellsCells (words_of c.args.bytes.now)) (λ (_ : Unit {0}). words_of c.in_ok-width.rest.now ≡ []) c.in_err-expect_end.field-0.0 _ c.from_residual-in_err-expect_end.ensures.1 c.in_err-expect_end.ensures
    (λ y h. (tt, cc (h.0, c.in_ok-low.ensures.1, c.in_ok-width.ensures.1)))

pub returns-then-not-has_whole_cells : goal.returns-then-not-has_whole_cells
returns-then-not-has_whole_cells c =
    let ends = c.in_ok-low.ensures in
    no_cells (words_of c.args.bytes.now) c.in_ok-low.low c.in_ok-low.high c.in_ok-width.width (cc (ends.1, c.in_ok-width.ensures.1, c.in_ok-expect_end.ensures)) ends.0.0 ends.0.1 c.in_ok-width.ensures.0
    (λ cells. iff_false c.has_whole_cells.ensures c.if-not-has_whole_cells.true (rw (whole c.in_ok-low.low ends.0.0, whole c.in_ok-low.high ends.0.1, whole c.in_ok-width.width c.in_ok-width.ensures.0) cells))

pub returns : goal.returns
returns c =
    let ends = c.in_ok-low.ensures in
    let number = c.in_ok-width.ensures in
    let cells = c.has_whole_cells.ensures.0 c.if-not-has_whole_cells.false in
    rw (whole c.in_ok-low.low ends.0.0, whole c.in_ok-low.high ends.0.1, whole c.in_ok-width.width number.0)
    (cc (ends.1, number.1, c.in_ok-expect_end.ensures), ends.0, number.0, rw (whole c.in_ok-low.low ends.0.0, whole c.in_ok-low.high ends.0.1, whole c.in_ok-width.width number.0) at cells)
