use denote.Param.Send.{sendable}
use Rattle.live_table.proofs.Crosses.{reader_send, told_send}
use Rattle.run_tests.proofs.live.threads.fn.teach.join+arg2.Goals as goal

pub map_vec-requires-send-J : goal.map_vec-requires-send-J
map_vec-requires-send-J g c κs = search (sendable, reader_send, told_send) depth 20
