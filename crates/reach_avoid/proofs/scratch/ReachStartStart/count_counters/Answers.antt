use Rattle.std.proofs.Common.{◌*◌, sym, ◌∙◌, ap₂}
use Rattle.board_rounds.proofs.Boards.{fans_many}
use Rattle.reach_avoid.proofs.scratch.ReachStartStart.count_counters.Goals as goal

pub returns : goal.returns
returns g c =
    let game = g.G.Forward.game c.args.g.now in
    ap₂ ◌*◌ c.cells.ensures c.inputs.ensures ∙ sym (fans_many game (g.met.G.Forward.lawful c.args.g.now))
