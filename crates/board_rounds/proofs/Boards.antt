-- How many numbers a board begins with, and which.
use Rattle.std.proofs.Common.{◌≡◌, ℕ, ◌+◌, ◌-◌, ◌*◌, ◌<◌, ◌≤◌, List, [], ◌++◌, length, replicate, slice_index, arith, ◌∙◌, ap, append_assoc, refl}
use Rattle.std.proofs.lemmas.List.{length-map, length-append, length-replicate, get_or_append_left, get_or-append_right, get_or-replicate, get_or-map}
use Rattle.std.proofs.lemmas.List.FromFn.{length-map-range_with_len, get_or-map-range_with_len}
use Rattle.game_core.specs.Game.{Game, IsGraph, pairs_of, successors_at}
use Rattle.board_rounds.specs.Boards.{fans_of, for_each_cell}
use Rattle.board_rounds.specs.inside.FirstWords.{first_numbers, first_words}

module _ (g : Game) (a : IsGraph g) where
  pub fans_many : length (fans_of g) ≡ pairs_of g
  fans_many = length-map g.successors length ∙ a.game.one_list_each

  -- a pair begins with as many as it has successors, where the pairs stand in front
  pub fan_of_pair : (more starts : List ℕ) → starts ≡ fans_of g ++ more → (pair : ℕ) → pair < pairs_of g → slice_index starts pair ≡ length (successors_at g pair)
  fan_of_pair more starts e pair lt =
      let pairs = fans_many in
      ap (λ l. slice_index l pair) e
      ∙ (get_or_append_left (fans_of g) more 0 pair (omega arith) ∙ get_or-map length g.successors pair [] 0 (omega arith))

  pub numbers_many : (number : ℕ → ℕ) (numbers : List ℕ) → numbers ≡ fans_of g ++ for_each_cell g number → length numbers ≡ pairs_of g + g.cells
  numbers_many number numbers e =
      let all = ap length e ∙ length-append (fans_of g) (for_each_cell g number) in
      let pairs = fans_many in
      let cells = length-map-range_with_len number 0 g.cells in
      omega arith

  module _ (number : ℕ → ℕ) where
    pub words_many : length (first_words g number) ≡ pairs_of g + 2 * g.cells + 1
    words_many =
        let front = numbers_many number (first_numbers g number) refl in
        omega (arith, length-append (first_numbers g number) (replicate (1 + g.cells) 0), length-replicate {A = ℕ} (1 + g.cells) 0)

    pub word_of_pair : (pair : ℕ) → pair < pairs_of g → slice_index (first_words g number) pair ≡ length (successors_at g pair)
    word_of_pair pair lt = fan_of_pair (for_each_cell g number ++ replicate (1 + g.cells) 0) (first_words g number) (append_assoc (fans_of g) (for_each_cell g number) (replicate (1 + g.cells) 0)) pair lt

    pub word_of_cell : (at : ℕ) → pairs_of g ≤ at → at < pairs_of g + g.cells → slice_index (first_words g number) at ≡ number (at - pairs_of g)
    word_of_cell at from lt =
        let front = numbers_many number (first_numbers g number) refl in
        get_or_append_left (first_numbers g number) (replicate (1 + g.cells) 0) 0 at (omega arith)
        ∙ (get_or-append_right (fans_of g) (for_each_cell g number) (pairs_of g) at 0 fans_many from ∙ get_or-map-range_with_len number 0 g.cells (at - pairs_of g) (at - pairs_of g) 0 (omega arith) (omega arith))

    pub word_of_log : (at : ℕ) → pairs_of g + g.cells ≤ at → at < length (first_words g number) → slice_index (first_words g number) at ≡ 0
    word_of_log at from lt =
        let front = numbers_many number (first_numbers g number) refl in
        let many = words_many in
        get_or-append_right (first_numbers g number) (replicate (1 + g.cells) 0) (pairs_of g + g.cells) at 0 front from ∙ get_or-replicate (1 + g.cells) (at - (pairs_of g + g.cells)) 0 0 (omega arith)
