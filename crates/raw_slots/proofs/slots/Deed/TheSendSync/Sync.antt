use denote.RattleType.{RattleType}
use denote.Param.Send.{IsSync}
use Rattle.core.specs.declared.alloc.Allocator.{Ghosts}
use Rattle.raw_slots.proofs.Crosses.{Deed-sync}
use Rattle.raw_slots.specs.contracts.slots.Deed.{the_row}

pub sync : (R A : RattleType) (g : Ghosts A.Denot) → IsSync (the_row R A g)
sync = Deed-sync
