use Rattle.std.proofs.Common.{◌≡◌, List, ℕ, [], ◌∷◌}
use Rattle.line_words.specs.Words.{words_of}
use Rattle.line_words.proofs.lemmas.RefusalsPassOn.{exits_in_place}
use Rattle.line_words.proofs.expected.only_word.Goals as goal

pub returns-in_err-expect_end : goal.returns-in_err-expect_end
returns-in_err-expect_end c =
    exits_in_place (λ word. word.now) (λ (word : List ℕ). words_of c.args.bytes.now ≡ word ∷ []) (λ (_ : Unit {0}). words_of c.in-Some.rest.now ≡ []) c.in_err-expect_end.field-0.0 _ c.from_residual.ensures.1 c.in_err-expect_end.ensures
    (λ word h. (tt, cc (h, c.in-Some.ensures.word)))
