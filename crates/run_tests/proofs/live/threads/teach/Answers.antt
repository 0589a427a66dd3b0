use denote.Param.Send.{sendable}
use Rattle.std.proofs.Crossing.{crosses}
use Rattle.live_table.proofs.Crosses.{reader_send, told_send}
use Rattle.run_tests.proofs.live.threads.teach.Goals as goal

pub join-attended-requires-send-F : goal.join-attended-requires-send-F
join-attended-requires-send-F g c κs within = search (crosses, sendable, reader_send, told_send, c.type_bounds.sync-R, c.type_bounds.sync-R.shared) depth 60 fits 20000
