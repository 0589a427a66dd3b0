use denote.Param.Send.{IsSend, owning_send, sendable}
use Rattle.std.proofs.alloc.Global.TheSendSync as heap
use Rattle.controller_c.proofs.Crossing.{held_keyless}
use Rattle.controller_c.specs.contracts.held.Held.{the_row, the_type}

pub send : IsSend the_row
send = owning_send the_type (search sendable, (heap.the_field_send, tt)) (λ d. held_keyless d.alloc d.at d.text) (λ k x w. tt)
