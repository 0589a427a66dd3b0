-- Words that spell the numbers of a state.
use Rattle.std.proofs.Common.{Bor, ◌≡◌, ℕ, ◌^◌, ◌<◌, List, [], ◌∷◌, length, map, get_or, Some, refl, sym, ap, ◌∙◌, arith}
use Rattle.std.specs.Prelude.{ℤ, pos, Result}
use Rattle.std.specs.Result.{result_ok}
use Rattle.std.specs.Str.Parse.{ParsesUnsigned}
use Rattle.std.specs.List.{All}
use Rattle.std.specs.Fmt.{decimal, signed_decimal}
use Rattle.std.proofs.lemmas.Fmt.{signed_decimal_injective, parse-decimal}
use Rattle.std.proofs.lemmas.List.{length-map, get_or-map}
use Rattle.std.proofs.lemmas.List.Elements.{All-head, All-tail, All-get_or}
use Rattle.line_words.specs.Numbers.{IsLiteral}
use Rattle.line_words.proofs.lemmas.Spelling.{short_number}
use Rattle.command_line.specs.inside.ArgumentSpelling.{Spell}

-- ---- a number's own spelling is read

pub parsed_number : {E : Type 0} (word : List ℕ) (n : ℕ) (r : Result ℕ E) → ParsesUnsigned 64 10 word r → n < 2 ^ 64 → word ≡ decimal n → result_ok r ≡ Some n
parsed_number word n r parses lt is = ap result_ok (parse-decimal 64 n word r lt lt is parses)

-- ---- numbers have one spelling

-- the arguments spell these numbers alone
pub one_spelling : (xs ys : List ℤ) → All IsLiteral xs → All IsLiteral ys → map signed_decimal xs ≡ map signed_decimal ys → xs ≡ ys
one_spelling [] [] h k e = refl
one_spelling [] (y ∷ ys) h k e = cc
one_spelling (x ∷ xs) [] h k e = cc
one_spelling (x ∷ xs) (y ∷ ys) h k e =
    let here : x ≡ y = signed_decimal_injective x y (short_number x (All-head IsLiteral x xs h)) (short_number y (All-head IsLiteral y ys k)) cc in
    let rest : xs ≡ ys = one_spelling xs ys (All-tail IsLiteral x xs h) (All-tail IsLiteral y ys k) cc in
    ap (λ (z : ℤ). z ∷ xs) here ∙ ap (λ (zs : List ℤ). y ∷ zs) rest

pub as_many : (arguments : List (List ℕ)) (numbers : List ℤ) → Spell arguments numbers → length numbers ≡ length arguments
as_many arguments numbers s = sym (ap length s.spelled ∙ length-map numbers signed_decimal)

-- ---- arguments that are read one by one

abbrev pub now : Bor (List ℕ) → List ℕ
now word = word.now

-- an argument that spells no number is among no such arguments
pub no_spelling : (arguments : List (Bor (List ℕ))) (i : ℕ) (d : Bor (List ℕ)) → i < length arguments → ((z : ℤ) → IsLiteral z → (get_or arguments i d).now ≡ signed_decimal z → ⊥) → (numbers : List ℤ) → Spell (map now arguments) numbers → ⊥
no_spelling arguments i d lt none numbers s =
    let count : i < length numbers = omega (arith, lt, as_many (map now arguments) numbers s, length-map arguments now) in
    none (get_or numbers i (pos 0)) (All-get_or IsLiteral numbers i (pos 0) count s.each)
    (sym (get_or-map now arguments i d [] lt) ∙ ap (λ (ws : List (List ℕ)). get_or ws i []) s.spelled ∙ get_or-map signed_decimal numbers i (pos 0) [] count)
