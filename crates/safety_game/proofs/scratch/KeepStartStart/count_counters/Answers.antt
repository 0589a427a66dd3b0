use Rattle.std.proofs.Common.{◌*◌, ap₂, arith}
use Rattle.safety_game.proofs.OnBoards.{starts_many}
use Rattle.safety_game.proofs.scratch.KeepStartStart.count_counters.Goals as goal

pub returns : goal.returns
returns g c =
    let game = g.G.Forward.game c.args.g.now in
    omega (arith, ap₂ ◌*◌ c.cells.ensures c.inputs.ensures, starts_many game (g.met.G.Forward.lawful c.args.g.now))
