-- The lines of questions, read number by number.
use Rattle.std.proofs.Common.{◌≡◌, ℕ, ◌<◌, List, [], ◌∷◌, ◌++◌, length, drop, map, refl, ap, sym, ◌∙◌, arith, append_assoc, append-nil, to_z, of_z}
use Rattle.std.specs.Prelude.{ℤ, codes}
use Rattle.std.specs.Int.{w64, w128}
use Rattle.std.proofs.lemmas.Int.{to_z-of_z}
use Rattle.std.specs.List.{All, join_with_byte}
use Rattle.std.specs.Fmt.{signed_decimal}
use Rattle.std.proofs.lemmas.Grind.{flat_map-append}
use Rattle.std.proofs.lemmas.List.{length_push}
use Rattle.std.proofs.lemmas.List.Elements.{All-head, All-tail, All-push, All-nil}
use Rattle.line_words.specs.Numbers.{IsLiteral}
use Rattle.line_words.proofs.lemmas.NumberWords.{whole}
use Rattle.command_line.specs.Command.{AreStateNumbers}
use Rattle.live_script.specs.Scripts.{ask_line}
use Rattle.live_script.specs.inside.QuestionWords.{BeginsWithSeparator, IsNumberAt, spaced, IsReadSoFar}
use Rattle.live_script.proofs.WordsCut.{one_number_at}
use Rattle.base.proofs.Integers.{literal_fits}

-- ---- a question's line

joined_numbers : (word : List ℕ) (numbers : List ℤ) → join_with_byte 32 (word ∷ map signed_decimal numbers) ≡ word ++ spaced numbers
joined_numbers word [] = sym (append-nil word)
joined_numbers word (z ∷ numbers) = ap (λ (bytes : List ℕ). word ++ 32 ∷ bytes) (joined_numbers (signed_decimal z) numbers)

-- the line of a question, and what stands after it
pub line_opened : (numbers : List ℤ) (rest_after : List ℕ) → ask_line numbers ++ rest_after ≡ codes "ask" ++ (spaced numbers ++ 10 ∷ rest_after)
line_opened numbers rest_after =
    ap (λ (bytes : List ℕ). (bytes ++ 10 ∷ []) ++ rest_after) (joined_numbers (codes "ask") numbers)
    ∙ append_assoc (codes "ask" ++ spaced numbers) (10 ∷ []) rest_after
    ∙ append_assoc (codes "ask") (spaced numbers) (10 ∷ rest_after)

spaced_more : (numbers : List ℤ) (z : ℤ) → spaced (numbers ++ z ∷ []) ≡ spaced numbers ++ 32 ∷ signed_decimal z
spaced_more numbers z = flat_map-append (λ (y : ℤ). 32 ∷ signed_decimal y) numbers (z ∷ []) ∙ ap (λ (x : List ℕ). spaced numbers ++ x) (append-nil (32 ∷ signed_decimal z))

pub after_word : (rest other : List ℕ) → codes "ask" ++ rest ≡ codes "ask" ++ other → rest ≡ other
after_word rest other e = ap (drop 3) e

-- ---- a number in 64 bits and in 128

-- a literal is read back from its 64 bits
pub narrow : (z : ℤ) → IsLiteral z → to_z w64 (of_z w64 z) ≡ z
narrow z lt = to_z-of_z w64 z (literal_fits z lt)

pub widened : (z wide : ℤ) → IsLiteral z → wide ≡ to_z w64 (of_z w64 z) → to_z w128 (of_z w128 wide) ≡ z
widened z wide lt is = ap (λ (y : ℤ). to_z w128 (of_z w128 y)) (is ∙ narrow z lt) ∙ whole z lt

-- ---- the numbers read so far

-- no number is read yet
pub read_none : (bytes rest : List ℕ) → bytes ≡ codes "ask" ++ rest → IsReadSoFar bytes [] rest
read_none bytes rest at = record {
  most = omega arith;
  each = All-nil IsLiteral;
  text = at;
  goes_on = λ all rest_after question line. record {
    left = all;
    some = omega (arith, question.some);
    are = refl;
    each = question.each;
    text = after_word rest (spaced all ++ 10 ∷ rest_after) (sym at ∙ line ∙ line_opened all rest_after);
  };
}

-- the first of the numbers that are left, and the others
record IsFirstLeft (rest : List ℕ) (left : List ℤ) (rest_after : List ℕ) : Type 0 where
  number : ℤ
  others : List ℤ
  are : left ≡ number ∷ others
  at : (word : List ℕ) × (rest ≡ 32 ∷ word) × IsNumberAt word (number, spaced others ++ 10 ∷ rest_after)
  each : All IsLiteral others

pub begins : (others : List ℤ) (rest_after : List ℕ) → BeginsWithSeparator (spaced others ++ 10 ∷ rest_after)
begins [] rest_after = record { separator = 10; after = rest_after; are = refl; separates = refl }
begins (z ∷ others) rest_after = record { separator = 32; after = signed_decimal z ++ spaced others ++ 10 ∷ rest_after; are = refl; separates = refl }

first_left : (rest : List ℕ) (left : List ℤ) (rest_after : List ℕ) → 0 < length left → All IsLiteral left → rest ≡ spaced left ++ 10 ∷ rest_after → IsFirstLeft rest left rest_after
first_left rest [] rest_after some each text = absurd (omega (arith, some))
first_left rest (z ∷ others) rest_after some each text =
    let opened : rest ≡ 32 ∷ (signed_decimal z ++ (spaced others ++ 10 ∷ rest_after)) = text ∙ ap (λ (x : List ℕ). 32 ∷ x) (append_assoc (signed_decimal z) (spaced others) (10 ∷ rest_after)) in
    record {
      number = z;
      others = others;
      are = refl;
      at = (signed_decimal z ++ (spaced others ++ 10 ∷ rest_after), opened, (All-head IsLiteral z others each, begins others rest_after, refl));
      each = All-tail IsLiteral z others each;
    }

-- where no number stands after a space, no question's line is this
pub no_question_left : (bytes : List ℕ) (numbers : List ℤ) (rest : List ℕ) → IsReadSoFar bytes numbers rest → ((y : ℤ × List ℕ) → (word : List ℕ) × (rest ≡ 32 ∷ word) × IsNumberAt word y → ⊥) → (all : List ℤ) (rest_after : List ℕ) → AreStateNumbers all → bytes ≡ ask_line all ++ rest_after → ⊥
no_question_left bytes numbers rest so_far none all rest_after question line =
    let on = so_far.goes_on all rest_after question line in
    let first = first_left rest on.left rest_after on.some on.each on.text in
    none (first.number, spaced first.others ++ 10 ∷ rest_after) first.at

-- the text up to here with one more number
text_more : (bytes : List ℕ) (numbers : List ℤ) (rest word after : List ℕ) (z : ℤ) → bytes ≡ codes "ask" ++ (spaced numbers ++ rest) → rest ≡ 32 ∷ word → word ≡ signed_decimal z ++ after → bytes ≡ codes "ask" ++ (spaced (numbers ++ z ∷ []) ++ after)
text_more bytes numbers rest word after z text at is =
    text
    ∙ ap (λ (x : List ℕ). codes "ask" ++ (spaced numbers ++ x)) (at ∙ ap (λ (x : List ℕ). 32 ∷ x) is)
    ∙ ap (λ (x : List ℕ). codes "ask" ++ x) (sym (append_assoc (spaced numbers) (32 ∷ signed_decimal z) after) ∙ ap (λ (x : List ℕ). x ++ after) (sym (spaced_more numbers z)))

-- a line feed ends the question
pub ended : (bytes : List ℕ) (numbers : List ℤ) (rest after rest_after : List ℕ) (z : ℤ) → IsReadSoFar bytes numbers rest → length numbers < 6 → (word : List ℕ) × (rest ≡ 32 ∷ word) × IsNumberAt word (z, after) → after ≡ 10 ∷ rest_after → AreStateNumbers (numbers ++ z ∷ []) × (bytes ≡ ask_line (numbers ++ z ∷ []) ++ rest_after)
ended bytes numbers rest after rest_after z so_far few found feed = (
  record {
    some = omega (arith, length_push numbers z);
    most = omega (arith, length_push numbers z, few);
    each = All-push IsLiteral numbers z so_far.each found.2.0;
  },
  text_more bytes numbers rest found.0 after z so_far.text found.1 found.2.2
      ∙ ap (λ (x : List ℕ). codes "ask" ++ (spaced (numbers ++ z ∷ []) ++ x)) feed
      ∙ sym (line_opened (numbers ++ z ∷ []) rest_after),
)

-- without one it goes on
pub read_more : (bytes : List ℕ) (numbers : List ℤ) (rest after : List ℕ) (z : ℤ) → IsReadSoFar bytes numbers rest → length numbers < 6 → (word : List ℕ) × (rest ≡ 32 ∷ word) × IsNumberAt word (z, after) → ((rest_after : List ℕ) → after ≡ 10 ∷ rest_after → ⊥) → IsReadSoFar bytes (numbers ++ z ∷ []) after
read_more bytes numbers rest after z so_far few found no_feed = record {
  most = omega (arith, length_push numbers z, few);
  each = All-push IsLiteral numbers z so_far.each found.2.0;
  text = text_more bytes numbers rest found.0 after z so_far.text found.1 found.2.2;
  goes_on = λ all rest_after question line.
      let on = so_far.goes_on all rest_after question line in
      let first = first_left rest on.left rest_after on.some on.each on.text in
      let word_is : found.0 ≡ first.at.0 = after_space found.0 first.at.0 (sym found.1 ∙ first.at.1) in
      let one = one_number_at z first.number after (spaced first.others ++ 10 ∷ rest_after) found.2.0 first.at.2.0 found.2.1 first.at.2.1 (sym found.2.2 ∙ word_is ∙ first.at.2.2) in
      record {
        left = first.others;
        some = others_are_some first.others rest_after one.1;
        are = on.are ∙ ap (λ (x : List ℤ). numbers ++ x) (first.are ∙ ap (λ (y : ℤ). y ∷ first.others) (sym one.0)) ∙ sym (append_assoc numbers (z ∷ []) first.others);
        each = first.each;
        text = one.1;
      };
}
  where
    after_space : (v w : List ℕ) → 32 ∷ v ≡ 32 ∷ w → v ≡ w
    after_space v w e = ap (drop 1) e

    others_are_some : (others : List ℤ) (rest_after : List ℕ) → after ≡ spaced others ++ 10 ∷ rest_after → 0 < length others
    others_are_some [] rest_after is = absurd (no_feed rest_after is)
    others_are_some (y ∷ others) rest_after is = omega arith
