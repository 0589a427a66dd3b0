use Rattle.std.proofs.Common.{◌≡◌, ◌+◌, ◌==◌, false, slice_index, arith, sym, ◌∙◌, ap, subst}
use Rattle.cell_counters.specs.Accounts.{IsLawfulCounter}
use Rattle.game_core.specs.Fallen.{is_obstacle}
use Rattle.game_core.specs.Game.{mark_of}
use Rattle.safety_game.proofs.Begins.{falls_first}
use Rattle.safety_game.proofs.Marks.{clear_from}
use Rattle.safety_game.proofs.OnBoards.{counters_of_board, left_at_first}
use Rattle.safety_game.proofs.keep_rule.KeepRule.is_first.Goals as goal

pub left-enabled-requires-clause-counter : goal.left-enabled-requires-clause-counter
left-enabled-requires-clause-counter g c =
    let rule = c.args.self.now in
    let many = counters_of_board (g.G.Graph.game rule.graph.now) rule.is_graph c.args.board.now c.requires.board.of_game in
    omega arith

pub returns-else-eq-clause-first : goal.returns-else-eq-clause-first
returns-else-eq-clause-first g c =
    let rule = c.args.self.now in
    let game = g.G.Graph.game rule.graph.now in
    let board = c.args.board.now in
    let root = c.args.root.now in
    let lawful = subst (λ n. IsLawfulCounter root.accounts (n + c.args.c) (slice_index board.starts (n + c.args.c)) c.left-enabled.result) rule.pairs_are c.left-enabled.ensures.lawful in
    let left = left_at_first game rule.is_graph board c.requires.board.of_game root c.requires.root c.args.c c.left-enabled.result c.requires.cell lawful in
    let clear : is_obstacle (mark_of game c.args.c) ≡ false = ap is_obstacle (sym c.mark.ensures) ∙ clear_from c.mark.result (sym c.eq.ensures ∙ c.if-eq.false) in
    ap (λ n. n == 0) left ∙ falls_first game rule.is_graph c.args.c clear
