use Rattle.std.proofs.Common.{ap, sym, ◌∙◌, arith, rules}
use Rattle.cell_counters.specs.BoardModels.{RootModel}
use Rattle.cell_counters.proofs.Roots.{look_allowed, setup_is}
use Rattle.cell_counters.proofs.board.Board.log_len.Goals as goal

pub load-logs-requires : goal.load-logs-requires
load-logs-requires c =
    (search rules, omega arith, look_allowed _ _ _ _ _ c.root.invariant.first (setup_is _ _ _ _ (ap (λ (r : RootModel). r.board) c.root.view_is ∙ c.requires.root ∙ sym c.self.view_is)) c.root.invariant.idle)
