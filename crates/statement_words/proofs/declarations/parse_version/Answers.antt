use Rattle.std.proofs.Common.{◌≡◌, List, ℕ, [], ◌∷◌}
use Rattle.plant_record.specs.Spelling.{version_word}
use Rattle.line_words.specs.Words.{words_of}
use Rattle.statement_words.specs.LineReaders.{SpellsVersion}
use Rattle.line_words.proofs.lemmas.RefusalsPassOn.{exits_in_place}
use Rattle.statement_words.proofs.declarations.parse_version.Goals as goal

pub returns-in_err-only_word : goal.returns-in_err-only_word
returns-in_err-only_word c =
    exits_in_place (λ v. v) (SpellsVersion (words_of c.args.bytes.now)) (λ (word : List ℕ). words_of c.args.bytes.now ≡ word ∷ []) c.in_err-only_word.field-0.0 _ c.from_residual.ensures.1 c.in_err-only_word.ensures
    (λ v h. (version_word v, h))
