use Rattle.std.proofs.Common.{◌≡◌, List, ℕ, [], ◌∷◌}
use Rattle.plant_record.specs.Spelling.{goal_word}
use Rattle.line_words.specs.Words.{words_of}
use Rattle.statement_words.specs.LineReaders.{SpellsGoal}
use Rattle.line_words.proofs.lemmas.RefusalsPassOn.{exits_in_place}
use Rattle.statement_words.proofs.declarations.parse_goal.Goals as goal

pub returns-in_err-only_word : goal.returns-in_err-only_word
returns-in_err-only_word c =
    exits_in_place (λ kind. kind) (SpellsGoal (words_of c.args.bytes.now)) (λ (word : List ℕ). words_of c.args.bytes.now ≡ word ∷ []) c.in_err-only_word.field-0.0 _ c.from_residual.ensures.1 c.in_err-only_word.ensures
    (λ kind h. (goal_word kind, h))
