use Rattle.std.specs.Prelude.{ℤ}
use Rattle.line_words.specs.Words.{words_of, IsSpellingOf}
use Rattle.statement_words.specs.LineReaders.{SpellsValues}
use Rattle.line_words.proofs.lemmas.RefusalsPassOn.{exits_from_place}
use Rattle.statement_words.proofs.lemmas.InputValues.{next_value}
use Rattle.statement_words.proofs.declarations.parse_values.Goals as goal

pub returns-in_err-expect_number : goal.returns-in_err-expect_number
returns-in_err-expect_number c =
    exits_from_place (λ v. v) (SpellsValues (words_of c.args.bytes.now)) (λ (z : ℤ). IsSpellingOf z c.in-Some.word.now) c.in_err-expect_number.field-0.0 _ c.from_residual.ensures.1 c.in_err-expect_number.ensures
    (next_value (words_of c.args.bytes.now) (words_of c.loop-word.rest.now) (words_of c.in-Some.after.now) c.in-Some.word.now c.loop-word.numbers.items c.loop-word.invariant.read c.in-Some.ensures.word)
