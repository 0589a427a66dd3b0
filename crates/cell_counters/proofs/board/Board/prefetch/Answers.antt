use Rattle.std.proofs.Common.{◌<◌, length, sym, subst, arith}
use Rattle.cell_counters.specs.BoardModels.{BoardModel}
use Rattle.cell_counters.specs.inside.BoardProtocol.{setup_of}
use Rattle.cell_counters.proofs.Roots.{tail_is}
use Rattle.cell_counters.proofs.board.Board.prefetch.Goals as goal

pub peek-found-requires : goal.peek-found-requires
peek-found-requires c =
    let there : c.args.counter < length (setup_of c.self.inside.table.shared.key).starts = subst (λ (b : BoardModel). c.args.counter < length b.starts) (sym c.self.view_is) c.requires in
    let tail = tail_is _ _ _ _ _ c.self.invariant in
    omega (arith, tail)
