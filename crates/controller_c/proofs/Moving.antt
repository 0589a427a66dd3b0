-- A controller may go to another thread.
use denote.Param.Send.{IsSend}
use Rattle.controller_c.specs.contracts.controller.Controller.{the_row}
use Rattle.controller_c.proofs.controller.Controller.TheSendSync

pub controller_send : IsSend the_row
controller_send = TheSendSync.the_send
