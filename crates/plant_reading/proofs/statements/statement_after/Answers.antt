use Rattle.std.proofs.Common.{◌≡◌, length, [], ◌∷◌}
use Rattle.std.specs.Prelude.{codes}
use Rattle.plant_record.specs.Parts.{variable_names}
use Rattle.plant_reading.specs.StatementsRead.{statement_of}
use Rattle.plant_reading.specs.Statements.{States}
use Rattle.statement_words.specs.LineReaders.{SpellsVersion}
use Rattle.line_words.specs.Words.{words_of}
use Rattle.line_words.proofs.lemmas.RefusalsPassOn.{exits_from_place}
use Rattle.plant_reading.proofs.lemmas.OneStatement.{only_version, only_end}
use Rattle.plant_reading.proofs.statements.statement_after.Goals as goal

pub returns-in_err-parse_version-in-Plant : goal.returns-in_err-parse_version-in-Plant
returns-in_err-parse_version-in-Plant c =
    let names = variable_names c.args.variables.now in
    let n = length c.args.variables.now.states.items in
    rw c.in-Plant.is
    (exits_from_place statement_of (States names n (codes "plant" ∷ words_of c.args.bytes.now)) (SpellsVersion (words_of c.args.bytes.now)) c.in_err-parse_version-in-Plant.field-0.0 _ c.from_residual.ensures.1 c.in_err-parse_version-in-Plant.ensures
    (λ s h. only_version names n (words_of c.args.bytes.now) s h))

pub returns-in_err-expect_end-in-End : goal.returns-in_err-expect_end-in-End
returns-in_err-expect_end-in-End c =
    let names = variable_names c.args.variables.now in
    let n = length c.args.variables.now.states.items in
    rw c.in-End.is
    (exits_from_place statement_of (States names n (codes "end" ∷ words_of c.args.bytes.now)) (λ (_ : Unit {0}). words_of c.args.bytes.now ≡ []) c.in_err-expect_end-in-End.field-0.0 _ c.from_residual-in_err-expect_end-in-End.ensures.1 c.in_err-expect_end-in-End.ensures
    (λ s h. (tt, only_end names n (words_of c.args.bytes.now) s h)))
