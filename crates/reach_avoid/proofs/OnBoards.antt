-- What a board of a game is: its numbers are the game's, and a minimum determines a row.
use Rattle.std.proofs.Common.{◌≡◌, ℕ, ◌<◌, List, [], length, slice_index, arith, sym, ◌∙◌, ap, subst}
use Rattle.std.proofs.lemmas.List.{append-nil}
use Rattle.std.proofs.lemmas.List.FromFn.{length-map-range_with_len, get_or-map-range_with_len}
use Rattle.cell_counters.specs.declared.account.Account.{Account}
use Rattle.cell_counters.specs.Accounts.{IsLawfulCounter, IsLawfulLeast, all_offers, values}
use Rattle.cell_counters.specs.BoardModels.{BoardModel, IsLawful}
use Rattle.game_core.specs.Game.{Game, IsGraph, mark_of, pairs_of}
use Rattle.board_rounds.specs.Boards.{fans_of}
use Rattle.board_rounds.proofs.Boards.{fans_many, fan_of_pair}
use Rattle.reach_avoid.specs.ReachBoards.{word_at, word_for, IsBoardOf}
use Rattle.reach_avoid.specs.inside.ReachRounds.{least_from, word_after, IsLawfulFor}
use Rattle.reach_avoid.proofs.Words.{least_told}

module _ (g : Game) (a : IsGraph g) (board : BoardModel) (of_game : IsBoardOf g board) where
  -- what the board began with
  pub start_of_cell : (c : ℕ) → c < g.cells → slice_index board.least c ≡ word_at (mark_of g c)
  start_of_cell c lt = ap (λ l. slice_index l c) of_game.words ∙ get_or-map-range_with_len (word_for g) 0 g.cells c c 0 lt (omega arith)

  pub counters_of_board : length board.starts ≡ pairs_of g
  counters_of_board = ap length of_game.counters ∙ fans_many g a

  pub words_of_board : length board.least ≡ g.cells
  words_of_board = ap length of_game.words ∙ length-map-range_with_len (word_for g) 0 g.cells

  pub lawful_for : (accounts : List Account) → IsLawful accounts board.starts board.least → IsLawfulFor g accounts
  lawful_for accounts h =
      let starts = counters_of_board in
      let least = words_of_board in
      record {
        pairs = λ pair lt. subst (λ n. (now : ℕ) × IsLawfulCounter accounts pair n now) (fan_of_pair g a [] board.starts (of_game.counters ∙ sym (append-nil (fans_of g))) pair lt) (h.counters pair (omega arith));
        cells = λ c lt. subst (λ n. (now : ℕ) × IsLawfulLeast accounts c n now) (start_of_cell c lt) (h.words c (omega arith));
      }

  -- a word that is read is the least of what was offered
  pub word_read : (accounts : List Account) (c n : ℕ) → c < g.cells → IsLawfulLeast accounts c (slice_index board.least c) n → n ≡ word_after g accounts c
  word_read accounts c n lt h =
      subst (λ start. n ≡ least_from start (values (all_offers c accounts))) (start_of_cell c lt) (least_told (slice_index board.least c) n (values (all_offers c accounts)) h.least)
