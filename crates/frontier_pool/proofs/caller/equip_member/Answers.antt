use Rattle.std.proofs.Common.{[], sym, subst, ◌∙◌}
use Rattle.frontier_pool.specs.inside.Members.{HasSeat}
use Rattle.frontier_pool.proofs.Steps.{deal_splits}
use Rattle.frontier_pool.proofs.caller.equip_member.Goals as goal

pub split_seat-seat-requires : goal.split_seat-seat-requires
split_seat-seat-requires g c = (c.requires.worker, c.requires.some, deal_splits _ _ _ c.requires.first)

pub returns-clause-split_off : goal.returns-clause-split_off
returns-clause-split_off g c = let split = c.split_seat-seat.ensures in record { table = split.0; id = split.1; me = split.2 }

pub returns-clause-ready : goal.returns-clause-ready
returns-clause-ready g c =
    let split = c.split_seat-seat.ensures in
    subst (HasSeat c.args.claimed.now.table_id []) (sym c.set_local.ensures.local) (record { worker = split.3 ∙ c.requires.worker; me = split.4 })

pub returns-clause-hand : goal.returns-clause-hand
returns-clause-hand g c = c.set_local.ensures.hand
