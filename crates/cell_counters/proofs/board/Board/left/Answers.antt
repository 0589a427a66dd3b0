use Rattle.std.proofs.Common.{length, ◌<◌, ap, sym, ◌∙◌, subst, arith, rules}
use Rattle.cell_counters.specs.BoardModels.{BoardModel, RootModel}
use Rattle.cell_counters.specs.inside.BoardProtocol.{setup_of}
use Rattle.cell_counters.proofs.Roots.{look_allowed, tail_is, setup_is}
use Rattle.cell_counters.proofs.board.Board.left.Goals as goal

pub load-requires : goal.load-requires
load-requires c =
    let there : c.args.counter < length (setup_of c.self.inside.table.shared.key).starts = subst (λ (b : BoardModel). c.args.counter < length b.starts) (sym c.self.view_is) c.requires.counter in
    let tail = tail_is _ _ _ _ _ c.self.invariant in
    (search rules, omega (arith, tail), look_allowed _ _ _ _ _ c.root.invariant.first (setup_is _ _ _ _ (ap (λ (r : RootModel). r.board) c.root.view_is ∙ c.requires.root ∙ sym c.self.view_is)) c.root.invariant.idle)
