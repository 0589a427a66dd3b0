-- What a board of a game is: its numbers are the game's.
use Rattle.std.proofs.Common.{inl, inr, ◌≡◌, ℕ, ◌+◌, ◌-◌, ◌<◌, ◌≤◌, ◌==◌, ◌&&◌, nat_lt, true, false, eq-eqb, ne_eqb, List, [], ◌++◌, length, slice_index, arith, refl, sym, ◌∙◌, ap, subst}
use Rattle.std.proofs.lemmas.Bool.{cases_eq, lt-ltb, le-ltb}
use Rattle.std.proofs.lemmas.List.{get_or-append-add}
use Rattle.std.proofs.lemmas.List.FromFn.{get_or-map-range_with_len}
use Rattle.cell_counters.specs.declared.account.Account.{Account}
use Rattle.cell_counters.specs.Accounts.{IsLawfulCounter, cut_count}
use Rattle.cell_counters.specs.BoardModels.{BoardModel, RootModel, IsLawful, new_root}
use Rattle.cell_counters.proofs.Consequences.{counts_down}
use Rattle.game_core.specs.Game.{Game, IsGraph, pairs_of, successors_at}
use Rattle.board_rounds.specs.Boards.{fans_of, for_each_cell}
use Rattle.board_rounds.proofs.Boards.{fans_many, fan_of_pair, numbers_many}
use Rattle.board_rounds.proofs.Graphs.{few_successors}
use Rattle.safety_game.specs.KeepBoards.{enabled_at, counters_of, IsBoardOf}
use Rattle.safety_game.specs.inside.KeepRounds.{IsLawfulFor, is_whole}
use Rattle.safety_game.proofs.Pairs.{few_enabled}

-- how many numbers a board begins with
pub starts_many : (g : Game) → IsGraph g → length (counters_of g) ≡ pairs_of g + g.cells
starts_many g a = numbers_many g a (enabled_at g) (counters_of g) refl

module _ (g : Game) (a : IsGraph g) (board : BoardModel) (of_game : IsBoardOf g board) where
  pub counters_of_board : length board.starts ≡ pairs_of g + g.cells
  counters_of_board = ap length of_game.counters ∙ starts_many g a

  -- what the board began with
  start_of_pair : (pair : ℕ) → pair < pairs_of g → slice_index board.starts pair ≡ length (successors_at g pair)
  start_of_pair = fan_of_pair g a (for_each_cell g (enabled_at g)) board.starts of_game.counters

  pub start_of_cell : (c : ℕ) → c < g.cells → slice_index board.starts (pairs_of g + c) ≡ enabled_at g c
  start_of_cell c lt =
      ap (λ l. slice_index l (pairs_of g + c)) of_game.counters
      ∙ (ap (λ n. slice_index (fans_of g ++ for_each_cell g (enabled_at g)) (n + c)) (sym (fans_many g a))
      ∙ (get_or-append-add (fans_of g) (for_each_cell g (enabled_at g)) c 0 ∙ get_or-map-range_with_len (enabled_at g) 0 g.cells c c 0 lt (omega arith)))

  pub lawful_for : (accounts : List Account) → IsLawful accounts board.starts board.least → IsLawfulFor g accounts
  lawful_for accounts h =
      let many = counters_of_board in
      record {
        pairs = λ pair lt. subst (λ n. (now : ℕ) × IsLawfulCounter accounts pair n now) (start_of_pair pair lt) (h.counters pair (omega arith));
        cells = λ c lt. subst (λ n. (now : ℕ) × IsLawfulCounter accounts (pairs_of g + c) n now) (start_of_cell c lt) (h.counters (pairs_of g + c) (omega arith));
      }

  -- what is left of a cell while nothing is done, and of a pair
  pub left_at_first : (root : RootModel) → root ≡ new_root board → (c n : ℕ) → c < g.cells → IsLawfulCounter root.accounts (pairs_of g + c) (slice_index board.starts (pairs_of g + c)) n → n ≡ enabled_at g c
  left_at_first root is c n lt h =
      let few = few_enabled g c in
      let lawful : IsLawfulCounter [] (pairs_of g + c) (enabled_at g c) n =
      subst (λ start. IsLawfulCounter [] (pairs_of g + c) start n) (start_of_cell c lt)
      (subst (λ (r : RootModel). IsLawfulCounter r.accounts (pairs_of g + c) (slice_index board.starts (pairs_of g + c)) n) is h) in
      omega arith

  pub left_of_pair : (accounts : List Account) (pair n : ℕ) → pair < pairs_of g → cut_count pair accounts ≤ length (successors_at g pair) → IsLawfulCounter accounts pair (slice_index board.starts pair) n → n ≡ length (successors_at g pair) - cut_count pair accounts
  left_of_pair accounts pair n lt few h =
      let most = few_successors g a pair lt in
      (counts_down accounts pair (length (successors_at g pair)) n (subst (λ start. IsLawfulCounter accounts pair start n) (start_of_pair pair lt) h) (omega arith) few).0

-- a pair is whole where as much is left as it began with
pub whole_told : (g : Game) (accounts : List Account) (pair fan left : ℕ) → fan ≡ length (successors_at g pair) → cut_count pair accounts ≤ length (successors_at g pair) → left ≡ length (successors_at g pair) - cut_count pair accounts → 0 < fan → (left == fan) ≡ is_whole g accounts pair
whole_told g accounts pair fan left e few is some' =
    let enabled : nat_lt 0 (length (successors_at g pair)) ≡ true = lt-ltb 0 (length (successors_at g pair)) (omega arith) in
    same ∙ sym (ap (λ b. b && (cut_count pair accounts == 0)) enabled)
  where
    same : (left == fan) ≡ (cut_count pair accounts == 0)
    same =
        elim (cases_eq (cut_count pair accounts) 0) [
          | inl none ↦ eq-eqb left fan (omega arith) ∙ sym (eq-eqb (cut_count pair accounts) 0 none)
          | inr ne ↦ ne_eqb left fan (λ f. absurd (ne (omega arith))) ∙ sym (ne_eqb (cut_count pair accounts) 0 ne)
        ]

pub none_whole : (g : Game) (accounts : List Account) (pair : ℕ) → length (successors_at g pair) ≡ 0 → is_whole g accounts pair ≡ false
none_whole g accounts pair e = ap (λ b. b && (cut_count pair accounts == 0)) (le-ltb 0 (length (successors_at g pair)) (omega arith))
