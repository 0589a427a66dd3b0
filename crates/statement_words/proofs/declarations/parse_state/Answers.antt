use Rattle.std.proofs.Common.{[], ◌∷◌}
use Rattle.std.specs.Fmt.{signed_decimal}
use Rattle.line_words.specs.Words.{words_of}
use Rattle.line_words.specs.WordReaders.{StartsWithName}
use Rattle.statement_words.specs.LineReaders.{SpellsState, SpellsCells}
use Rattle.line_words.proofs.lemmas.RefusalsPassOn.{exits_from_place}
use Rattle.line_words.proofs.lemmas.NumberWords.{whole}
use Rattle.statement_words.proofs.declarations.parse_state.Goals as goal

pub returns-in_err-name : goal.returns-in_err-name
returns-in_err-name c =
    exits_from_place (λ s. s) (SpellsState (words_of c.args.bytes.now)) (StartsWithName (words_of c.args.bytes.now)) c.in_err-name.field-0.0 _ c.from_residual.ensures.1 c.in_err-name.ensures
    (λ s h. ((s.name, signed_decimal s.low ∷ signed_decimal s.high ∷ signed_decimal s.width ∷ []), (h.1.name, h.0)))

pub returns-in_err-low : goal.returns-in_err-low
returns-in_err-low c =
    exits_from_place (λ s. s) (SpellsState (words_of c.args.bytes.now)) (SpellsCells (words_of c.in_ok-name.rest.now)) c.in_err-low.field-0.0 _ c.from_residual-in_err-low.ensures.1 c.in_err-low.ensures
    (λ s h. ((s.low, s.high, s.width), (cc (h.0, c.in_ok-name.ensures.1), (h.1.low, h.1.high, h.1.ordered), h.1.width, (h.1.some_width, h.1.whole_cells))))

pub returns : goal.returns
returns c =
    let cells = c.in_ok-low.ensures in
    rw (whole c.in_ok-low.low cells.1.0, whole c.in_ok-low.high cells.1.1, whole c.in_ok-low.width cells.2, c.in_ok-name-2.ensures) (
      cc (c.in_ok-name.ensures.1, cells.0),
      record {
        name = c.in_ok-name.ensures.0;
        low = cells.1.0;
        high = cells.1.1;
        width = cells.2;
        ordered = cells.1.2;
        some_width = cells.3.0;
        whole_cells = cells.3.1;
      },
    )
