-- The lines of texts with rows: each is one line, and says one thing, where its numbers are below 2 ^ 64.
use Rattle.std.proofs.Common.{◌≡◌, ℕ, ◌+◌, ◌%◌, ◌^◌, ◌<◌, ◌≤◌, Bool, true, false, eqb, not, List, [], ◌∷◌, ◌++◌, refl, ◌∙◌, arith}
use Rattle.std.specs.Prelude.{codes, ◌||◌}
use Rattle.std.specs.List.{list_all}
use Rattle.std.specs.Fmt.{decimal}
use Rattle.std.proofs.lemmas.Bool.{and_parts}
use Rattle.std.proofs.lemmas.Bool.Decides.{nat_tests}
use Rattle.std.proofs.lemmas.Fmt.{decimal_by_steps}
use Rattle.std.proofs.lemmas.List.Folds.{list_all-append}
use Rattle.row_runs.specs.RunText.{count_line, end_line}
use Rattle.row_runs.proofs.Lines.{IsLine, no_feed}

-- ---- words

-- a byte that ends no word
abbrev pub is_inner : ℕ → Bool
is_inner b = not (eqb b 32 || eqb b 10)

digit_inner : (d : ℕ) → d < 10 → is_inner (48 + d) ≡ true
digit_inner d lt = grind (arith, nat_tests)

pub decimal_inner : (n : ℕ) → n < 2 ^ 64 → list_all is_inner (decimal n) ≡ true
decimal_inner n lt = decimal_by_steps (λ (m : ℕ) (ds : List ℕ). list_all is_inner ds ≡ true) one more n lt
  where
    one : (m : ℕ) → m < 10 → list_all is_inner ((48 + m) ∷ []) ≡ true
    one m small = rw (digit_inner m small) refl

    more : (m : ℕ) (ds : List ℕ) → 10 ≤ m → list_all is_inner ds ≡ true → list_all is_inner (ds ++ ((48 + m % 10) ∷ [])) ≡ true
    more m ds large h = list_all-append is_inner ds ((48 + m % 10) ∷ []) ∙ rw (h, digit_inner (m % 10) (omega arith)) refl

no_feed_of : (b : ℕ) → is_inner b ≡ true → no_feed b ≡ true
no_feed_of b h = neither (eqb b 32) (eqb b 10) h
  where
    neither : (x y : Bool) → not (x || y) ≡ true → not y ≡ true
    neither true y h = absurd cc
    neither false y h = h

pub no_feed_in : (w : List ℕ) → list_all is_inner w ≡ true → list_all no_feed w ≡ true
no_feed_in [] h = refl
no_feed_in (b ∷ w) h =
    let parts = and_parts (is_inner b) (list_all is_inner w) h in
    rw (no_feed_of b parts.0, no_feed_in w parts.1) refl

pub decimal_no_feed : (n : ℕ) → n < 2 ^ 64 → list_all no_feed (decimal n) ≡ true
decimal_no_feed n lt = no_feed_in (decimal n) (decimal_inner n lt)

-- ---- lines

pub count_is_line : (n : ℕ) → n < 2 ^ 64 → IsLine (count_line n)
count_is_line n lt = record { front = codes "rows " ++ decimal n; no_other = decimal_no_feed n lt; are = refl }

pub end_is_line : IsLine end_line
end_is_line = record { front = codes "end"; no_other = refl; are = refl }

pub both_no_feed : (a b : List ℕ) → list_all no_feed a ≡ true → list_all no_feed b ≡ true → list_all no_feed (a ++ 32 ∷ b) ≡ true
both_no_feed a b h k = list_all-append no_feed a (32 ∷ b) ∙ rw (h, k) refl
