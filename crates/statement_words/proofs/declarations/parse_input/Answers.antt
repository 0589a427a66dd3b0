use Rattle.std.proofs.Common.{map}
use Rattle.std.specs.Fmt.{signed_decimal}
use Rattle.line_words.specs.Words.{words_of}
use Rattle.line_words.specs.WordReaders.{StartsWithName}
use Rattle.statement_words.specs.LineReaders.{SpellsInput, SpellsValues}
use Rattle.line_words.proofs.lemmas.RefusalsPassOn.{exits, exits_from_place}
use Rattle.statement_words.proofs.declarations.parse_input.Goals as goal

pub returns-in_err-name : goal.returns-in_err-name
returns-in_err-name c =
    exits_from_place (λ i. i) (SpellsInput (words_of c.args.bytes.now)) (StartsWithName (words_of c.args.bytes.now)) c.in_err-name.field-0.0 _ c.from_residual.ensures.1 c.in_err-name.ensures
    (λ i h. ((i.name, map signed_decimal i.values), (h.1.name, h.0)))

pub returns-in_err-values : goal.returns-in_err-values
returns-in_err-values c =
    exits (λ i. i) (SpellsInput (words_of c.args.bytes.now)) (SpellsValues (words_of c.in_ok-name.rest.now)) c.in_err-values.field-0.0 _ c.from_residual-in_err-values.ensures.1 c.in_err-values.ensures
    (λ i h. (i.values, (cc (h.0, c.in_ok-name.ensures.1), h.1.some_value, h.1.values_bound, h.1.each)))
