use Rattle.std.proofs.Common.{◌≡◌, length, arith, sym, ◌∙◌}
use Rattle.std.proofs.lemmas.Bool.{le-ltb}
use Rattle.game_core.specs.Game.{IsGraph, successors_at}
use Rattle.safety_game.proofs.OnBoards.{counters_of_board, left_of_pair, whole_told, none_whole}
use Rattle.safety_game.proofs.keep_rule.is_whole.Goals as goal

pub left-left-requires-clause-counter : goal.left-left-requires-clause-counter
left-left-requires-clause-counter g c =
    let many = counters_of_board (g.G.Graph.game c.args.g.now) (g.met.G.Graph.lawful c.args.g.now) c.args.board.now c.requires.board in
    omega arith

pub returns-then-fan-gt0-clause-whole : goal.returns-then-fan-gt0-clause-whole
returns-then-fan-gt0-clause-whole g c =
    let game = g.G.Graph.game c.args.g.now in
    let accounts = c.args.root.now.accounts in
    let pair = c.args.pair in
    let few = c.requires.few pair c.requires.pair in
    let a : IsGraph game = g.met.G.Graph.lawful c.args.g.now in
    let left = left_of_pair game a c.args.board.now c.requires.board accounts pair c.left-left.result c.requires.pair few c.left-left.ensures.lawful in
    whole_told game accounts pair c.from-fan.result c.left-left.result (let e = c.from-fan.ensures in let f = c.fan.ensures in omega arith) few left c.if-fan-gt0.true

pub returns-else-fan-gt0-clause-whole : goal.returns-else-fan-gt0-clause-whole
returns-else-fan-gt0-clause-whole g c =
    let none : length (successors_at (g.G.Graph.game c.args.g.now) c.args.pair) ≡ 0 = (let e = c.from-fan.ensures in let f = c.fan.ensures in let t = c.if-fan-gt0.false in omega arith) in
    le-ltb 0 c.from-fan.result c.if-fan-gt0.false ∙ sym (none_whole (g.G.Graph.game c.args.g.now) c.args.root.now.accounts c.args.pair none)
