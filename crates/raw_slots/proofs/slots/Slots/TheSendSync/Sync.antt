use denote.RattleType.{RattleType}
use denote.Param.Send.{IsSync}
use Rattle.raw_slots.proofs.Crosses.{Slots-sync}
use Rattle.raw_slots.specs.contracts.slots.Slots.{the_row}

pub sync : (R : RattleType) → IsSync R → IsSync (the_row R)
sync = Slots-sync
