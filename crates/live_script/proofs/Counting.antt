-- How many lines end in commands as they are written.
use Rattle.std.proofs.Common.{◌≡◌, ℕ, ◌+◌, ◌≤◌, true, false, Bool, cond, not, List, [], ◌∷◌, ◌++◌, length, refl, ap, sym, ◌∙◌, arith, append-nil}
use Rattle.std.specs.Prelude.{ℤ, pos, codes, ◌||◌, ◌==◌}
use Rattle.std.specs.List.{All}
use Rattle.std.specs.Fmt.{decimal, signed_decimal}
use Rattle.std.proofs.lemmas.Bool.{and_parts}
use Rattle.std.proofs.lemmas.List.Elements.{All-head, All-tail}
use Rattle.std.proofs.lemmas.List.Sums.{sum_by-append}
use Rattle.line_words.specs.Numbers.{IsLiteral}
use Rattle.line_words.specs.Separators.{is_separator, is_word}
use Rattle.line_words.proofs.lemmas.NumberBytes.{number_word}
use Rattle.row_reading.specs.Counting.{line_count}
use Rattle.command_line.specs.Command.{AreStateNumbers}
use Rattle.live_script.specs.Scripts.{publish_line, ask_line}
use Rattle.live_script.specs.inside.QuestionWords.{spaced}
use Rattle.live_script.proofs.QuestionLines.{line_opened}
use Rattle.live_script.proofs.TableLines.{size_opened}

pub both_counted : (a b : List ℕ) → line_count (a ++ b) ≡ line_count a + line_count b
both_counted a b = sum_by-append (λ (x : ℕ). cond (x == 10) 1 0) a b

no_feed : (b : ℕ) → not (is_separator b) ≡ true → (b == 10) ≡ false
no_feed b h = neither (b == 32) (b == 10) h
  where
    neither : (x y : Bool) → not (x || y) ≡ true → y ≡ false
    neither true y h = absurd cc
    neither false true h = absurd cc
    neither false false h = refl

none_in_word : (w : List ℕ) → is_word w ≡ true → line_count w ≡ 0
none_in_word [] h = refl
none_in_word (b ∷ w) h =
    let parts = and_parts (not (is_separator b)) (is_word w) h in
    rw (no_feed b parts.0) (omega (arith, none_in_word w parts.1))

none_in_numbers : (numbers : List ℤ) → All IsLiteral numbers → line_count (spaced numbers) ≡ 0
none_in_numbers [] each = refl
none_in_numbers (z ∷ numbers) each =
    both_counted (signed_decimal z) (spaced numbers)
    ∙ omega (arith, none_in_word (signed_decimal z) (number_word z (All-head IsLiteral z numbers each)), none_in_numbers numbers (All-tail IsLiteral z numbers each))

pub one_in_question : (numbers : List ℤ) → AreStateNumbers numbers → line_count (ask_line numbers) ≡ 1
one_in_question numbers question =
    ap line_count (sym (append-nil (ask_line numbers)) ∙ line_opened numbers [])
    ∙ both_counted (codes "ask") (spaced numbers ++ 10 ∷ [])
    ∙ omega (arith, both_counted (spaced numbers) (10 ∷ []), none_in_numbers numbers question.each)

pub one_before_table : (text : List ℕ) → length text ≤ 67108864 → line_count (publish_line (length text) ++ text) ≡ 1 + line_count text
one_before_table text few =
    ap line_count (size_opened (length text) text)
    ∙ both_counted (codes "publish ") (decimal (length text) ++ 10 ∷ text)
    ∙ omega (arith, both_counted (decimal (length text)) (10 ∷ text), both_counted (10 ∷ []) text, none_in_word (decimal (length text)) (number_word (pos (length text)) (omega (arith, few))))
