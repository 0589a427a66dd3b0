use Rattle.std.proofs.Common.{◌≤◌, max, length}
use Rattle.board_rounds.specs.inside.FirstWords.{first_words}
use Rattle.board_rounds.proofs.Filling.{IsFilledTo}
use Rattle.board_rounds.proofs.numbers.fill_numbers.Given as goal

-- the numbers of the pairs so far
abbrev pub invariant-loop-pair : goal.invariant-loop-pair
invariant-loop-pair g l =
    let game = g.G.Forward.game l.g in
    record {
      from : l.first ≤ l.pair;
      up_to : l.pair ≤ max l.first l.pairs;
      filled : IsFilledTo (first_words game (g.S.Start.number game)) l.first l.pair (length l.fn.words) l.words;
    }

-- those of the pairs, and of the cells so far
abbrev pub invariant-loop-at : goal.invariant-loop-at
invariant-loop-at g l =
    let game = g.G.Forward.game l.g in
    record {
      from : l.first ≤ l.at;
      past_pairs : l.pairs ≤ l.at;
      filled : IsFilledTo (first_words game (g.S.Start.number game)) l.first l.at (length l.fn.words) l.words;
    }
