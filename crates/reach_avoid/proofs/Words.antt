-- Minima, and the rows that they determine.
use Rattle.std.proofs.Common.{inl, inr, ◌≡◌, ℕ, suc, ◌-◌, ◌/◌, ◌%◌, ◌<◌, ◌≤◌, ◌==◌, ◌||◌, ◌⊎◌, min, Bool, true, false, cond, List, [], ◌∷◌, ◌++◌, length, All, Contains, Option, Some, None, arith, refl, sym, ◌∙◌, ap, subst, eq-eqb, ne_eqb}
use Rattle.std.proofs.lemmas.Bool.{cases_lt}
use Rattle.std.proofs.lemmas.List.{map-append, get_or_past}
use Rattle.std.proofs.lemmas.List.Concat.{flat_map-append}
use Rattle.std.proofs.lemmas.List.Elements.{All-head, All-tail, All-nil, All-cons, All-contains}
use Rattle.std.proofs.lemmas.List.FromFn.{length-map-range_with_len, get_or-map-range_with_len}
use Rattle.cell_counters.specs.declared.account.TheConstants.{NONE}
use Rattle.cell_counters.specs.declared.account.Offer.{Offer}
use Rattle.cell_counters.specs.declared.account.Account.{Account}
use Rattle.cell_counters.specs.Accounts.{offers_on, all_offers, values, IsLeastOf}
use Rattle.game_core.specs.declared.game.Mark.{Mark}
use Rattle.game_core.specs.declared.game.Mark.TheVariants.{Goal, Obstacle, Plain}
use Rattle.game_core.specs.declared.game.Row.{Row}
use Rattle.game_core.specs.Game.{Game, mark_of}
use Rattle.game_core.specs.Solution.{row_of}
use Rattle.reach_avoid.specs.ReachBoards.{word_at}
use Rattle.reach_avoid.specs.inside.ReachRounds.{row_in, least_from, word_after, decoded_rows}

pub least_from-append : (start : ℕ) (xs ys : List ℕ) → least_from start (xs ++ ys) ≡ least_from (least_from start xs) ys
least_from-append start [] ys = refl
least_from-append start (x ∷ xs) ys = least_from-append (min start x) xs ys

pub least_from-le : (start : ℕ) (xs : List ℕ) → least_from start xs ≤ start
least_from-le start [] = omega arith
least_from-le start (x ∷ xs) = let rest = least_from-le (min start x) xs in omega arith

pub least_from-lower : (start : ℕ) (xs : List ℕ) → All (λ v. least_from start xs ≤ v) xs
least_from-lower start [] = All-nil (λ v. least_from start [] ≤ v)
least_from-lower start (x ∷ xs) =
    let le = least_from-le (min start x) xs in
    All-cons (λ v. least_from (min start x) xs ≤ v) x xs (omega arith) (least_from-lower (min start x) xs)

pub least_from-among : (start : ℕ) (xs : List ℕ) → (least_from start xs ≡ start) ⊎ Contains xs (least_from start xs)
least_from-among start [] = inl refl
least_from-among start (x ∷ xs) =
    elim (least_from-among (min start x) xs) [
      | inr has ↦ let at = has in inr (suc at.0, (let lt = at.1 in omega arith), at.2)
      | inl e ↦
          elim (cases_lt x start) [
            | inl lt ↦ inr (0, omega arith, omega arith)
            | inr ge ↦ inl (omega arith)
          ]
    ]

-- where nothing is less, the number stays
pub least_from-keeps : (start : ℕ) (xs : List ℕ) → All (λ v. start ≤ v) xs → least_from start xs ≡ start
least_from-keeps start xs h =
    elim (least_from-among start xs) [
      | inl e ↦ e
      | inr has ↦
          omega (arith, least_from-le start xs)
    ]

-- the number of which a board speaks
pub least_told : (start n : ℕ) (xs : List ℕ) → IsLeastOf (start ∷ xs) n → n ≡ least_from start xs
least_told start n xs h =
    let most = least_from-le start xs in
    let low = All-head (λ m. n ≤ m) start xs h.1 in
    let lower = All-tail (λ m. n ≤ m) start xs h.1 in
    let down : n ≤ least_from start xs = elim (least_from-among start xs) [ inl e ↦ omega arith | inr has ↦ All-contains (λ m. n ≤ m) xs (least_from start xs) lower has ] in
    let up : least_from start xs ≤ n = All-contains (λ m. least_from start xs ≤ m) (start ∷ xs) n (All-cons (λ m. least_from start xs ≤ m) start xs most (least_from-lower start xs)) h.0 in
    omega arith

-- what begins above a range of numbers falls into it, where there are any
pub least_from-range : (start low high : ℕ) (xs : List ℕ) → high ≤ start → All (λ v. (low ≤ v) × (v < high)) xs → 0 < length xs → (low ≤ least_from start xs) × (least_from start xs < high)
least_from-range start low high [] above h some' = absurd (omega arith)
least_from-range start low high (x ∷ xs) above h some' =
    let first = All-head (λ v. (low ≤ v) × (v < high)) x xs h in
    elim (least_from-among (min start x) xs) [
      | inl e ↦ (omega arith, omega arith)
      | inr has ↦ let in' = All-contains (λ v. (low ≤ v) × (v < high)) xs (least_from (min start x) xs) (All-tail (λ v. (low ≤ v) × (v < high)) x xs h) has in in'
    ]

pub values-append : (c : ℕ) (xs ys : List Account) → values (all_offers c (xs ++ ys)) ≡ values (all_offers c xs) ++ values (all_offers c ys)
values-append c xs ys = ap values (flat_map-append (offers_on c) xs ys) ∙ map-append (λ (o : Offer). o.value) (all_offers c xs) (all_offers c ys)

-- rows by their words
abbrev pub told : ℕ → Option Row
told w = Some (record { rank = (w - 1) / 4096; input = (w - 1) % 4096 })

pub row_from_word : (w : ℕ) → 0 < w → w < NONE → row_in w ≡ told w
row_from_word w some' less =
    let none_zero : (w == 0) ≡ false = ne_eqb w 0 (omega arith) in
    let none_top : (w == NONE) ≡ false = ne_eqb w NONE (omega arith) in
    by_tests (w == 0) (w == NONE) none_zero none_top
  where
    by_tests : (a b : Bool) → a ≡ false → b ≡ false → cond (a || b) None (told w) ≡ told w
    by_tests true b e f = absurd (cc)
    by_tests false true e f = absurd (cc)
    by_tests false false e f = refl

pub no_row_from_word : (w : ℕ) → (w ≡ 0) ⊎ (w ≡ NONE) → row_in w ≡ None
no_row_from_word w (inl e) = by_tests (w == 0) (w == NONE) (eq-eqb w 0 e)
  where
    by_tests : (a b : Bool) → a ≡ true → cond (a || b) None (told w) ≡ None
    by_tests true b e = refl
    by_tests false b e = absurd (cc)
no_row_from_word w (inr e) = by_tests (w == 0) (w == NONE) (eq-eqb w NONE e)
  where
    by_tests : (a b : Bool) → b ≡ true → cond (a || b) None (told w) ≡ None
    by_tests true b e = refl
    by_tests false true e = refl
    by_tests false false e = absurd (cc)

-- the word of a row: it is neither 0 nor free, and the row's numbers are its digits
pub record IsWordOf (row : Row) (w : ℕ) : Type 0 where
  pub some : 0 < w
  pub less : w < NONE
  pub rank : row.rank ≡ (w - 1) / 4096
  pub input : row.input ≡ (w - 1) % 4096

pub word_from_row : (w : ℕ) (row : Row) → w ≤ NONE → row_in w ≡ Some row → IsWordOf row w
word_from_row w row le e =
    elim (cases_lt 0 w) [
      | inr zero' ↦ absurd (let none' = no_row_from_word w (inl (omega arith)) in cc)
      | inl lt ↦
          elim (cases_lt w NONE) [
            | inr top ↦ absurd (let none' = no_row_from_word w (inr (omega arith)) in cc)
            | inl less ↦
                let is = row_from_word w lt less in
                let same : record { rank = (w - 1) / 4096; input = (w - 1) % 4096 } ≡ row = cc in
                subst (λ r. IsWordOf r w) same (record { some = lt; less = less; rank = refl; input = refl })
          ]
    ]

pub word_at-le : (m : Mark) → word_at m ≤ NONE
word_at-le Goal = omega arith
word_at-le Obstacle = omega arith
word_at-le Plain = omega arith

module _ (g : Game) (accounts : List Account) where
  pub decoded_row : (c : ℕ) → c < g.cells → row_of (decoded_rows g accounts) c ≡ row_in (word_after g accounts c)
  decoded_row c lt = get_or-map-range_with_len (λ c. row_in (word_after g accounts c)) 0 g.cells c c None lt (omega arith)

  pub row_past : (c : ℕ) → g.cells ≤ c → row_of (decoded_rows g accounts) c ≡ None
  row_past c le = let len = length-map-range_with_len (λ c. row_in (word_after g accounts c)) 0 g.cells in get_or_past (decoded_rows g accounts) c None (omega arith)

  pub cell_of_row : (c : ℕ) (row : Row) → row_of (decoded_rows g accounts) c ≡ Some row → c < g.cells
  cell_of_row c row e = elim (cases_lt c g.cells) [ inl lt ↦ lt | inr ge ↦ absurd (let none' = row_past c ge in cc) ]

  pub word_after-le : (c : ℕ) → word_after g accounts c ≤ NONE
  word_after-le c =
      omega (arith, least_from-le (word_at (mark_of g c)) (values (all_offers c accounts)), word_at-le (mark_of g c))

  pub word_of_row : (c : ℕ) (row : Row) → row_of (decoded_rows g accounts) c ≡ Some row → IsWordOf row (word_after g accounts c)
  word_of_row c row e = word_from_row (word_after g accounts c) row (word_after-le c) (sym (decoded_row c (cell_of_row c row e)) ∙ e)

pub word_after-more : (g : Game) (accounts more : List Account) (c : ℕ) → word_after g (accounts ++ more) c ≡ least_from (word_after g accounts c) (values (all_offers c more))
word_after-more g accounts more c =
    ap (least_from (word_at (mark_of g c))) (values-append c accounts more) ∙ least_from-append (word_at (mark_of g c)) (values (all_offers c accounts)) (values (all_offers c more))
