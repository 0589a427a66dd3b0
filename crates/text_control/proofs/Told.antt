-- Words that determine the first rows, and one more.
use Rattle.std.proofs.Common.{inl, inr, ◌≡◌, ℕ, zero, suc, ◌+◌, ◌-◌, ◌*◌, ◌/◌, ◌<◌, ◌≤◌, Bool, true, false, leb, List, [], ◌∷◌, ◌++◌, length, get_or, cond, Option, None, sym, ap, ◌∙◌, subst, refl, arith}
use Rattle.std.specs.List.{All, AllWithin, count_by}
use Rattle.std.specs.List.Sorted.{IsNonDecreasingBy}
use Rattle.std.proofs.lemmas.Bool.{cases_lt, le-leb}
use Rattle.std.proofs.lemmas.Bool.Decides.{leb_tells}
use Rattle.std.proofs.lemmas.List.{get_or_append_left, get_or_default, get_or_push, length_push}
use Rattle.std.proofs.lemmas.List.FromFn.{fill_by_all, get_or-map-range_with_len, length-map-range_with_len}
use Rattle.std.proofs.lemmas.List.Sums.{sum_by_push, count_by-le-length}
use Rattle.std.proofs.lemmas.List.Sorted.{IsNonDecreasingBy-push}
use Rattle.base.proofs.Counts.{count-cons}
use Rattle.game_core.specs.declared.game.Row.{Row}
use Rattle.game_core.specs.Solution.{row_of}
use Rattle.text_control.specs.inside.RowWords.{cell_in, row_in, words_up_to, row_told, decoded_rows, AreWords}
use Rattle.text_control.specs.inside.WordPositions.{IsLastUpTo, IsNarrowed}

-- a cell comes later
later : (a b : ℕ) → b < a → leb a b ≡ false
later a b h = elim (leb_tells a b) [ inl le ↦ absurd (omega (arith, le.1, h)) | inr gt ↦ gt.0 ]

-- the position up to which a test holds is the number of elements that pass it
pub count_point : (p : ℕ → Bool) (xs : List ℕ) (i : ℕ) → i ≤ length xs → AllWithin (λ x. p x ≡ true) xs 0 i → AllWithin (λ x. p x ≡ false) xs i (length xs) → count_by p xs ≡ i
count_point p [] i le passes fails = omega (arith, le)
count_point p (x ∷ xs) zero le passes fails =
    let e : p x ≡ false = fails 0 0 (omega arith) (omega arith) in
    let rest : count_by p xs ≡ 0 = count_point p xs 0 (omega arith) (λ k d l m. absurd (omega (arith, m))) (λ k d l m. fails (suc k) d (omega arith) (omega (arith, m))) in
    count-cons p x xs ∙ rw e (omega (arith, rest))
count_point p (x ∷ xs) (suc i) le passes fails =
    let e : p x ≡ true = passes 0 0 (omega arith) (omega arith) in
    let rest : count_by p xs ≡ i = count_point p xs i (omega (arith, le)) (λ k d l m. passes (suc k) d (omega arith) (omega (arith, m))) (λ k d l m. fails (suc k) d (omega (arith, l)) (omega (arith, m))) in
    count-cons p x xs ∙ rw e (omega (arith, rest))

-- words that all have cells up to this one
pub all_up_to : (words : List ℕ) (c : ℕ) → All (λ word. cell_in word ≤ c) words → words_up_to words c ≡ length words
all_up_to words c each =
    count_point (λ word. leb (cell_in word) c) words (length words) (omega arith) (λ k d l m. le-leb _ _ (each k d m)) (λ k d l m. absurd (omega (arith, l, m)))

told_last : (words : List ℕ) (c : ℕ) → All (λ word. cell_in word ≤ c) words → row_told words c ≡ row_in (get_or words (length words - 1) 0)
told_last words c each = ap (λ (n : ℕ). row_in (get_or words (n - 1) 0)) (all_up_to words c each)

-- The words determine the rows of the cells below c.
pub record ToldBelow (rows : List (Option Row)) (words : List ℕ) (c : ℕ) : Type 0 where
  pub words_are : AreWords words c
  pub below : All (λ word. cell_in word < c) words
  pub told : (k : ℕ) → k < c → row_of rows k ≡ row_told words k

-- the cell has the row of the one before it
pub told_same : (rows : List (Option Row)) (words : List ℕ) (c : ℕ) → ToldBelow rows words c → 0 < c → row_of rows c ≡ row_of rows (c - 1) → ToldBelow rows words (c + 1)
told_same rows words c h above same = record {
  words_are = record { rising = h.words_are.rising; some = λ _. h.words_are.some above; first = h.words_are.first; few = omega (arith, h.words_are.few) };
  below = λ k d lt. let less = h.below k d lt in omega (arith, less);
  told = λ k lt. elim (cases_lt k c) [
    | inl less ↦ h.told k less
    | inr ge ↦
        let e : c ≡ k = omega (arith, lt, ge) in
        let here : row_told words c ≡ row_in (get_or words (length words - 1) 0) = told_last words c (λ j d m. let less = h.below j d m in omega (arith, less)) in
        let there : row_told words (c - 1) ≡ row_in (get_or words (length words - 1) 0) = told_last words (c - 1) (λ j d m. let less = h.below j d m in omega (arith, less)) in
        subst (λ (n : ℕ). row_of rows n ≡ row_told words n) e (same ∙ h.told (c - 1) (omega (arith, above)) ∙ there ∙ sym here)
  ];
}

module _ (words : List ℕ) (w c : ℕ) (at : cell_in w ≡ c) (below : All (λ word. cell_in word < c) words) where
  abbrev pushed : List ℕ
  pushed = words ++ w ∷ []

  pushed_below : All (λ word. cell_in word < c + 1) pushed
  pushed_below k d lt =
      elim (cases_lt k (length words)) [
        | inl less ↦ let here = below k d less in rw (get_or_append_left words (w ∷ []) d k less) (omega (arith, here))
        | inr ge ↦ let e : length words ≡ k = omega (arith, ge, lt, length_push words w) in rw (get_or_push words w d k e) (omega (arith, at))
      ]

  told_here : row_told pushed c ≡ row_in w
  told_here =
      told_last pushed c (λ k d lt. let less = pushed_below k d lt in omega (arith, less))
      ∙ ap row_in (get_or_push words w 0 (length pushed - 1) (omega (arith, length_push words w)))

  told_before : 0 < length words → (k : ℕ) → k < c → row_told pushed k ≡ row_told words k
  told_before some k lt =
      let count : words_up_to pushed k ≡ words_up_to words k = counted k (later (cell_in w) k (omega (arith, at, lt))) in
      let fits : words_up_to words k ≤ length words = count_by-le-length (λ word. leb (cell_in word) k) words in
      ap (λ (n : ℕ). row_in (get_or pushed (n - 1) 0)) count
      ∙ ap row_in (get_or_append_left words (w ∷ []) 0 (words_up_to words k - 1) (omega (arith, fits, some)))
    where
      counted : (k : ℕ) → leb (cell_in w) k ≡ false → words_up_to pushed k ≡ words_up_to words k
      counted k out = sum_by_push (λ word. cond (leb (cell_in word) k) 1 0) words w ∙ rw out (omega arith)

first_of : (words : List ℕ) (w c : ℕ) → cell_in w ≡ c → (0 < c → 0 < length words) → cell_in (get_or words 0 0) ≡ 0 → cell_in (get_or (words ++ w ∷ []) 0 0) ≡ 0
first_of [] w c at some first = elim (cases_lt 0 c) [ inl less ↦ absurd (let none = some less in omega (arith, none)) | inr ge ↦ omega (arith, at, ge) ]
first_of (word ∷ words) w c at some first = first

-- a word for the cell
pub told_more : (rows : List (Option Row)) (words : List ℕ) (w c : ℕ) → ToldBelow rows words c → cell_in w ≡ c → row_in w ≡ row_of rows c → ToldBelow rows (words ++ w ∷ []) (c + 1)
told_more rows words w c h at is = record {
  words_are = record {
    rising = IsNonDecreasingBy-push cell_in words w h.words_are.rising (λ d some. let less = h.below (length words - 1) d (omega (arith, some)) in omega (arith, less, at));
    some = λ _. omega (arith, length_push words w);
    first = first_of words w c at h.words_are.some h.words_are.first;
    few = omega (arith, length_push words w, h.words_are.few);
  };
  below = pushed_below words w c at h.below;
  told = λ k lt. elim (cases_lt k c) [
    | inl less ↦ h.told k less ∙ sym (told_before words w c at h.below (h.words_are.some (omega (arith, less))) k less)
    | inr ge ↦ let e : c ≡ k = omega (arith, lt, ge) in subst (λ (n : ℕ). row_of rows n ≡ row_told (words ++ w ∷ []) n) e (sym is ∙ sym (told_here words w c at h.below))
  ];
}

pub told_all : (rows : List (Option Row)) (words : List ℕ) → ToldBelow rows words (length rows) → decoded_rows words (length rows) ≡ rows
told_all rows words h = sym (fill_by_all (row_told words) rows (length rows) None refl h.told)

-- the row at a cell, among as many
pub row_at_cell : (words : List ℕ) (cells c : ℕ) → c < cells → row_of (decoded_rows words cells) c ≡ row_told words c
row_at_cell words cells c lt = get_or-map-range_with_len (row_told words) 0 cells c c None lt (omega arith)

pub as_many : (words : List ℕ) (cells : ℕ) → length (decoded_rows words cells) ≡ cells
as_many words cells = length-map-range_with_len (row_told words) 0 cells

pub searched : (words : List ℕ) (c i : ℕ) → i ≤ length words → AllWithin (λ word. leb (cell_in word) c ≡ true) words 0 i → AllWithin (λ word. leb (cell_in word) c ≡ false) words i (length words) → i ≡ words_up_to words c
searched words c i le passes fails = sym (count_point (λ word. leb (cell_in word) c) words i le passes fails)

module _ (words : List ℕ) (c : ℕ) (rising : IsNonDecreasingBy cell_in words) where
  same_at : (k d : ℕ) → k < length words → get_or words k d ≡ get_or words k 0
  same_at k d lt = get_or_default words k d 0 lt

  pub last_at : (position size : ℕ) → IsNarrowed words c position size → size ≤ 1 → IsLastUpTo words c position
  last_at position size h few = record {
    within = omega (arith, h.some, h.within);
    before = h.before;
    after = λ k low high. h.after k (omega (arith, low, few)) high;
  }

  pub found_at : (position : ℕ) → IsLastUpTo words c position → position + 1 ≡ words_up_to words c
  found_at position h =
      searched words c (position + 1) (omega (arith, h.within))
      (λ k d low high. le-leb _ _ (let order = rising k position d (omega (arith, high)) h.within in let e = ap cell_in (same_at position d h.within) in let le = h.before in omega (arith, order, e, le)))
      (λ k d low high. later _ _ (let e = ap cell_in (same_at k d high) in let gt = h.after k (omega (arith, low)) high in omega (arith, e, gt)))

-- among all words
pub all_words : (words : List ℕ) (cells c : ℕ) → AreWords words cells → 0 < length words → IsNarrowed words c 0 (length words)
all_words words cells c h some = record {
  some = some;
  within = omega arith;
  before = omega (arith, h.first);
  after = λ k low high. absurd (omega (arith, low, high));
}

-- Between the positions of the block of a cell and of the next one.
module _ (words : List ℕ) (c b first last : ℕ) (from : IsLastUpTo words (b * 64) first) (to : IsLastUpTo words ((b + 1) * 64) last) where
  pub in_order : first ≤ last
  in_order =
      elim (cases_lt last first) [
        | inl lt ↦ let past = to.after first lt from.within in let here = from.before in absurd (omega (arith, past, here))
        | inr ge ↦ ge
      ]

  pub between_positions : b ≡ c / 64 → IsNarrowed words c first (last - first + 1)
  between_positions is = record {
    some = omega arith;
    within = omega (arith, in_order, to.within);
    before = let here = from.before in omega (arith, here, is);
    after = λ k low high. let past = to.after k (omega (arith, low, in_order)) high in omega (arith, past, is);
  }
