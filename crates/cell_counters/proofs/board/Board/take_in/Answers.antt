use Rattle.std.proofs.Common.{ap, sym, ◌∙◌, rules, arith}
use Rattle.cell_counters.specs.BoardModels.{RootModel}
use Rattle.cell_counters.specs.inside.BoardProtocol.{Seated}
use Rattle.cell_counters.proofs.Roots.{root_joins, look_allowed, setup_is}
use Rattle.cell_counters.proofs.board.Board.take_in.Goals as goal

pub join_seat-requires : goal.join_seat-requires
join_seat-requires c =
    let began = setup_is _ _ _ _ (ap (λ (r : RootModel). r.board) c.root.view_is ∙ c.requires.root ∙ sym c.self.view_is) in
    (search rules, search rules, search rules, omega arith, root_joins _ _ _ _ _ c.root.invariant.first began c.root.invariant.idle c.hand.invariant.idle)

pub load-requires : goal.load-requires
load-requires c =
    let began = setup_is _ _ _ _ (ap (λ (r : RootModel). r.board) c.root.view_is ∙ c.requires.root ∙ sym c.self.view_is) in
    (search rules, omega arith, look_allowed _ _ _ _ _ (search rules) (ap (λ (me : Seated). me.0.began) c.join_seat.ensures.2 ∙ began) (ap (λ (me : Seated). me.0.awaits) c.join_seat.ensures.2 ∙ c.root.invariant.idle))
