use Rattle.std.proofs.Common.{ap, sym, ◌∙◌, rules, arith}
use Rattle.cell_counters.specs.BoardModels.{RootModel}
use Rattle.cell_counters.proofs.Roots.{hand_splits, setup_is}
use Rattle.cell_counters.proofs.board.Board.hand.Goals as goal

pub split_seat-seat-requires : goal.split_seat-seat-requires
split_seat-seat-requires c =
    (search rules, omega arith, hand_splits _ _ _ c.root.invariant.first (setup_is _ _ _ _ (ap (λ (r : RootModel). r.board) c.root.view_is ∙ c.requires.root ∙ sym c.self.view_is)))
