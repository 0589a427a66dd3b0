-- How often numbers stand in lists, and what that shows of the lists.
use Rattle.std.specs.Prelude.{◌≡◌, ◌≢◌, ℕ, ◌+◌, ◌<◌, ◌≤◌, ◌⊎◌, Bool, true, false, cond, List, [], filter, length, slice_index, slice_index_or, sum_by, count_by}
use Rattle.std.specs.List.{All, Contains, range_with_len}
use Rattle.std.specs.List.Sorted.{IsPermutation}
pub use Rattle.base.specs.Counts.{times, one_if}
use Rattle.game_core.specs.Game.{Game, IsGame, AreSources, pairs_of, successors_at}

-- What sums and counts over lists of numbers show.
pub record CountsAgree : Type 0 where
  -- how often each number stands there shows lists up to their order, and sums over two lists meet
  pub same : (xs ys : List ℕ) → ((n : ℕ) → times n xs ≡ times n ys) → IsPermutation xs ys
  pub each_once : (n : ℕ) (xs : List ℕ) → All (λ x. x < n) xs → ((i : ℕ) → i < n → times i xs ≡ 1) → IsPermutation (range_with_len 0 n) xs
  pub from_both_sides : (xs ys : List ℕ) → sum_by (λ x. times x ys) xs ≡ sum_by (λ y. times y xs) ys
  pub of_all_below : (n : ℕ) (xs : List ℕ) → All (λ x. x < n) xs → sum_by (λ i. times i xs) (range_with_len 0 n) ≡ length xs
  -- sums of equal, of added and of lesser terms
  pub alike : (f h : ℕ → ℕ) (xs : List ℕ) → All (λ x. f x ≡ h x) xs → sum_by f xs ≡ sum_by h xs
  pub added : (f h : ℕ → ℕ) (xs : List ℕ) → sum_by (λ x. f x + h x) xs ≡ sum_by f xs + sum_by h xs
  pub lesser : (f h : ℕ → ℕ) (xs : List ℕ) → All (λ x. f x ≤ h x) xs → sum_by f xs ≤ sum_by h xs
  -- a sum over the positions of a list
  pub positions : (f : ℕ → ℕ) (xs : List ℕ) → sum_by (λ i. f (slice_index xs i)) (range_with_len 0 (length xs)) ≡ sum_by f xs
  pub positions_of_lists : (f : List ℕ → ℕ) (xss : List (List ℕ)) → sum_by (λ i. f (slice_index_or xss i [])) (range_with_len 0 (length xss)) ≡ sum_by f xss
  -- a test that passes at each element counts all, and one that counts fewer fails somewhere
  pub all_pass : (p : ℕ → Bool) (xs : List ℕ) → All (λ x. p x ≡ true) xs → count_by p xs ≡ length xs
  pub none_passes : (p : ℕ → Bool) (xs : List ℕ) → count_by p xs ≡ 0 → All (λ x. p x ≡ false) xs
  pub each_passes : (p : ℕ → Bool) (xs : List ℕ) → count_by p xs ≡ length xs → All (λ x. p x ≡ true) xs
  pub one_fails : (p : ℕ → Bool) (xs : List ℕ) → count_by p xs < length xs → (x : ℕ) × Contains xs x × (p x ≡ false)
  -- a test that passes wherever another does, and no more often, passes alike
  pub pass_alike : (p q : ℕ → Bool) → ((x : ℕ) → p x ≡ true → q x ≡ true) → (xs : List ℕ) → count_by q xs ≤ count_by p xs → All (λ x. p x ≡ q x) xs
  -- how often a number stands in a list, in a range and in what a filter leaves
  pub absent : (n : ℕ) (xs : List ℕ) → All (λ x. x ≢ n) xs → times n xs ≡ 0
  pub found : (n : ℕ) (xs : List ℕ) → 0 < times n xs → Contains xs n
  pub counted : (n : ℕ) (xs : List ℕ) → Contains xs n → 0 < times n xs
  pub in_range : (n from len : ℕ) → from ≤ n → n < from + len → times n (range_with_len from len) ≡ 1
  pub out_of_range : (n from len : ℕ) → (n < from) ⊎ (from + len ≤ n) → times n (range_with_len from len) ≡ 0
  pub filtered : (p : ℕ → Bool) (n : ℕ) (xs : List ℕ) → times n (filter p xs) ≡ cond (p n) (times n xs) 0

-- an edge counts alike from both of its ends
abbrev pub EdgesFromBothEnds : Type 0
EdgesFromBothEnds =
    (g : Game) (c pair : ℕ) (pairs : List ℕ) → IsGame g → AreSources g c pairs → pair < pairs_of g → times pair pairs ≡ times c (successors_at g pair)
