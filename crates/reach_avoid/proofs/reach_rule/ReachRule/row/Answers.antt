use Rattle.std.proofs.Common.{sym, ◌∙◌, ap, arith}
use Rattle.reach_avoid.specs.inside.ReachRounds.{row_in}
use Rattle.reach_avoid.proofs.Ends.{low_ranks}
use Rattle.reach_avoid.proofs.OnBoards.{words_of_board, word_read}
use Rattle.reach_avoid.proofs.Words.{decoded_row}
use Rattle.reach_avoid.proofs.reach_rule.ReachRule.row.Goals as goal

pub read-requires-clause-word : goal.read-requires-clause-word
read-requires-clause-word g c =
    let rule = c.args.self.now in
    let words = words_of_board (g.G.Graph.game rule.graph.now) rule.is_graph c.args.board.now c.requires.board.of_game in
    omega arith

pub decoded_row-requires : goal.decoded_row-requires
decoded_row-requires g c =
    let rule = c.args.self.now in
    let game = g.G.Graph.game rule.graph.now in
    let accounts = c.args.root.now.accounts in
    let read = word_read game rule.is_graph c.args.board.now c.requires.board.of_game accounts c.args.c c.read.result c.requires.cell c.read.ensures.lawful in
    λ row e. low_ranks game rule.is_graph accounts c.requires.end c.args.c row (decoded_row game accounts c.args.c c.requires.cell ∙ (ap row_in (sym read) ∙ e))

pub returns-clause-row : goal.returns-clause-row
returns-clause-row g c =
    let rule = c.args.self.now in
    c.decoded_row.ensures
    ∙ ap row_in (word_read (g.G.Graph.game rule.graph.now) rule.is_graph c.args.board.now c.requires.board.of_game c.args.root.now.accounts c.args.c c.read.result c.requires.cell c.read.ensures.lawful)
