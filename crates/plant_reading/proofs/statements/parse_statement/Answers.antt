use Rattle.std.proofs.Common.{◌≡◌, length}
use Rattle.plant_record.specs.Parts.{variable_names}
use Rattle.plant_reading.specs.inside.Keywords.{keyword_text}
use Rattle.plant_reading.specs.Statements.{States}
use Rattle.line_words.specs.Words.{words_of}
use Rattle.plant_reading.specs.declared.statements.Keyword.{Keyword}
use Rattle.line_words.proofs.lemmas.RefusalsPassOn.{refused_whole, in_place}
use Rattle.plant_reading.proofs.lemmas.OneStatement.{has_keyword}
use Rattle.plant_reading.proofs.statements.parse_statement.Goals as goal

pub returns-in_err-keyword-clause-refused : goal.returns-in_err-keyword-clause-refused
returns-in_err-keyword-clause-refused c =
    let names = variable_names c.args.variables.now in
    let n = length c.args.variables.now.states.items in
    refused_whole (States names n (words_of c.args.line.now)) (λ (k : Keyword). c.in-Some.word.now ≡ keyword_text k) c.in_err-keyword.field-0.0 _ c.from_residual.ensures.1 (in_place _ _ c.in_err-keyword.ensures)
    (λ s h. has_keyword names n (words_of c.args.line.now) c.in-Some.word.now (words_of c.in-Some.rest.now) s h c.in-Some.ensures.word)
