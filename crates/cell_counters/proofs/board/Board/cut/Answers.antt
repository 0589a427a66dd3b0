use Rattle.std.proofs.Common.{◌<◌, length, sym, subst, rules, arith}
use Rattle.cell_counters.specs.BoardModels.{BoardModel}
use Rattle.cell_counters.specs.inside.BoardProtocol.{setup_of}
use Rattle.cell_counters.proofs.Roots.{tail_is}
use Rattle.cell_counters.proofs.Steps.{cut_allowed}
use Rattle.cell_counters.proofs.board.Board.cut.Goals as goal

pub fetch_sub-found-requires : goal.fetch_sub-found-requires
fetch_sub-found-requires c =
    let there : c.args.counter < length (setup_of c.self.inside.table.shared.key).starts = subst (λ (b : BoardModel). c.args.counter < length b.starts) (sym c.self.view_is) c.requires.counter in
    let tail = tail_is _ _ _ _ _ c.self.invariant in
    (search rules, omega (arith, tail), cut_allowed _ _ _ _ _ c.hand.invariant.one there)
