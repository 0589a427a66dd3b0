-- The line before the rows of a turn: it is one line, says how many rows follow, and is read so.
use Rattle.std.proofs.Common.{◌≡◌, ℕ, ◌^◌, ◌<◌, List, [], ◌∷◌, ◌++◌, drop, Option, Some, None, refl, sym, ap, ◌∙◌, append_assoc}
use Rattle.std.specs.Prelude.{codes}
use Rattle.std.specs.Fmt.{decimal}
use Rattle.std.proofs.lemmas.List.{append_cancel_left}
use Rattle.std.proofs.lemmas.List.Folds.{list_all-append}
use Rattle.base.proofs.Lists.{same_tail}
use Rattle.row_runs.specs.RunText.{count_line}
use Rattle.row_runs.proofs.Lines.{no_feed, IsLine}
use Rattle.row_runs.proofs.RunWords.{decimal_no_feed, count_is_line}
use Rattle.row_reading.specs.declared.row_rules.TurnHead.{TurnHead}
use Rattle.row_reading.specs.declared.row_rules.TurnHead.TheVariants.{Count, Numbered}
use Rattle.row_reading.specs.Found.{Finds}
use Rattle.row_reading.specs.RowsTexts.{head_line}
use Rattle.row_reading.specs.inside.ReadTurns.{IsCountAt, IsNumberAt, IsHeadAt}
use Rattle.row_reading.proofs.RunWords.{count_same}

turn_words : (j n : ℕ) → head_line Numbered j n ≡ codes "turn " ++ (decimal j ++ 32 ∷ count_line n)
turn_words j n = ap (λ (x : List ℕ). codes "turn " ++ x) (append_assoc (decimal j) (32 ∷ (codes "rows " ++ decimal n)) (10 ∷ []))

-- after the number of the turn stands how many rows follow
pub turn_front : (j n : ℕ) (after : List ℕ) → head_line Numbered j n ++ after ≡ codes "turn " ++ (decimal j ++ 32 ∷ (count_line n ++ after))
turn_front j n after =
    ap (λ (x : List ℕ). x ++ after) (turn_words j n) ∙ ap (λ (x : List ℕ). codes "turn " ++ x) (append_assoc (decimal j) (32 ∷ count_line n) after)

pub head_is_line : (head : TurnHead) (j n : ℕ) → j < 2 ^ 64 → n < 2 ^ 64 → IsLine (head_line head j n)
head_is_line Count j n hj hn = count_is_line n hn
head_is_line Numbered j n hj hn = record {
  front = codes "turn " ++ (decimal j ++ (codes " rows " ++ decimal n));
  no_other = list_all-append no_feed (decimal j) (codes " rows " ++ decimal n) ∙ rw (decimal_no_feed j hj, decimal_no_feed n hn) refl;
  are = refl;
}

pub head_same : (head : TurnHead) (j m n : ℕ) → m < 2 ^ 64 → n < 2 ^ 64 → head_line head j m ≡ head_line head j n → m ≡ n
head_same Count j m n hm hn e = count_same m n hm hn e
head_same Numbered j m n hm hn e =
    let words : decimal j ++ 32 ∷ count_line m ≡ decimal j ++ 32 ∷ count_line n = ap (drop 5) (sym (turn_words j m) ∙ e ∙ turn_words j n) in
    count_same m n hm hn (same_tail 32 32 (count_line m) (count_line n) (append_cancel_left (decimal j) (32 ∷ count_line m) (32 ∷ count_line n) words))

-- ---- how it is read

pub finds_as : {X Y : Type 0} (view : X → Y) (P Q : Y → Type 0) → ((y : Y) → P y → Q y) → ((y : Y) → Q y → P y) → (o : Option X) → Finds view P o → Finds view Q o
finds_as view P Q to from None h = λ y q. h y (from y q)
finds_as view P Q to from (Some x) h = to (view x) h

-- after the number stands how many rows follow
module _ (turn most : ℕ) (bytes rest : List ℕ) (number : IsNumberAt turn bytes rest) where
  pub to_head : (y : ℕ × List ℕ) → IsCountAt most rest y → IsHeadAt Numbered turn most bytes y
  to_head y h = (h.0, number ∙ ap (λ (x : List ℕ). codes "turn " ++ (decimal turn ++ 32 ∷ x)) h.1 ∙ sym (turn_front turn y.0 y.1))

  pub from_head : (y : ℕ × List ℕ) → IsHeadAt Numbered turn most bytes y → IsCountAt most rest y
  from_head y h =
      let words : decimal turn ++ 32 ∷ rest ≡ decimal turn ++ 32 ∷ (count_line y.0 ++ y.1) = ap (drop 5) (sym number ∙ h.1 ∙ turn_front turn y.0 y.1) in
      (h.0, same_tail 32 32 rest (count_line y.0 ++ y.1) (append_cancel_left (decimal turn) (32 ∷ rest) (32 ∷ (count_line y.0 ++ y.1)) words))
