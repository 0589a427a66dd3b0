use Rattle.std.proofs.Common.{◌≤◌, length, arith}
use Rattle.std.proofs.lemmas.Result.{IfOk-weaker}
use Rattle.game_core.proofs.Held.{settled}
use Rattle.game_core.proofs.Keep.{stable_rows_are_the_keep_solution}
use Rattle.game_core.specs.inside.Falling.{AreFirstSafe}
use Rattle.game_core.specs.Keep.{IsKeepSolution}
use Rattle.game_core.proofs.plain.keep_plain.Goals as goal

pub returns : goal.returns
returns g c =
    let game = g.G.Graph.game c.args.g.now in
    let a = (g.met.G.Graph.lawful c.args.g.now).game in
    let p = c.loop-head.falling in
    let all : length p.queue ≤ c.loop-head.head = omega arith in
    IfOk-weaker c.rows.result (AreFirstSafe game p.safe) (IsKeepSolution game)
    (λ rows first. stable_rows_are_the_keep_solution game rows a (settled game a c.loop-head.head p c.loop-head.invariant all rows first)) c.rows.ensures
