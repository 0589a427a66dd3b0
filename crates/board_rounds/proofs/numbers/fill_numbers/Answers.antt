use Rattle.std.proofs.Common.{◌≡◌, ◌-◌, ◌*◌, length, arith, sym, ap, ap₂, ◌∙◌}
use Rattle.game_core.specs.Game.{IsGraph, pairs_of, successors_at}
use Rattle.board_rounds.specs.inside.FirstWords.{first_words}
use Rattle.board_rounds.proofs.Boards.{words_many, word_of_pair, word_of_cell, word_of_log}
use Rattle.board_rounds.proofs.Filling.{filled_none, filled_more, filled_on, filled_all}
use Rattle.board_rounds.proofs.numbers.fill_numbers.Goals as goal

pub overflow_add-end : goal.overflow_add-end
overflow_add-end g c =
    let game = g.G.Forward.game c.args.g.now in
    let a : IsGraph game = g.met.G.Forward.lawful c.args.g.now in
    omega (arith, c.requires.within, a.pairs_bound, a.cells_bound, words_many game a (g.S.Start.number game))

pub loop-pair-init : goal.loop-pair-init
loop-pair-init g c =
    let game = g.G.Forward.game c.args.g.now in
    record { from = omega arith; up_to = omega arith; filled = filled_none (first_words game (g.S.Start.number game)) c.args.first (length c.args.words.now) c.args.words.now c.requires.zeros }

pub loop-pair-preserved : goal.loop-pair-preserved
loop-pair-preserved g c =
    let game = g.G.Forward.game c.args.g.now in
    let number = g.S.Start.number game in
    let a : IsGraph game = g.met.G.Forward.lawful c.args.g.now in
    let pairs : c.cells.result * c.inputs.result ≡ pairs_of game = ap₂ ◌*◌ c.cells.ensures c.inputs.ensures in
    let pair = c.loop-pair.pair in
    let fan : c.from.result ≡ length (successors_at game pair) = omega arith in
    let before = c.loop-pair.invariant in
    record {
      from = omega arith;
      up_to = omega arith;
      filled = filled_more (first_words game number) c.args.first (length c.args.words.now) pair c.from.result c.loop-pair.words before.filled before.from (omega arith) (fan ∙ sym (word_of_pair game a number pair (omega arith)));
    }

pub loop-at-init : goal.loop-at-init
loop-at-init g c =
    let game = g.G.Forward.game c.args.g.now in
    record {
      from = omega arith;
      past_pairs = omega arith;
      filled = filled_on (first_words game (g.S.Start.number game)) c.args.first (length c.args.words.now) c.loop-pair.pair c.max-at.result c.loop-pair.words (omega arith) (λ k lt before. omega arith) c.loop-pair.invariant.filled;
    }

pub loop-at-preserved : goal.loop-at-preserved
loop-at-preserved g c =
    let game = g.G.Forward.game c.args.g.now in
    let number = g.S.Start.number game in
    let a : IsGraph game = g.met.G.Forward.lawful c.args.g.now in
    let pairs : c.cells.result * c.inputs.result ≡ pairs_of game = ap₂ ◌*◌ c.cells.ensures c.inputs.ensures in
    let at = c.loop-at.at in
    let is : c.number_at.result ≡ number (at - pairs_of game) = c.number_at.ensures ∙ ap number (omega arith) in
    let before = c.loop-at.invariant in
    record {
      from = omega arith;
      past_pairs = omega arith;
      filled = filled_more (first_words game number) c.args.first (length c.args.words.now) at c.number_at.result c.loop-at.words before.filled before.from (omega arith) (is ∙ sym (word_of_cell game a number at (omega arith) (omega arith)));
    }

pub returns : goal.returns
returns g c =
    let game = g.G.Forward.game c.args.g.now in
    let number = g.S.Start.number game in
    let a : IsGraph game = g.met.G.Forward.lawful c.args.g.now in
    let pairs : c.cells.result * c.inputs.result ≡ pairs_of game = ap₂ ◌*◌ c.cells.ensures c.inputs.ensures in
    filled_all (first_words game number) c.args.first (length c.args.words.now) c.loop-at.at c.loop-at.words c.requires.within
    (λ at behind within. word_of_log game a number at (omega arith) (omega (arith, c.requires.within))) c.loop-at.invariant.filled
