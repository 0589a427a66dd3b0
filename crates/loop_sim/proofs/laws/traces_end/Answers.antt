use Rattle.loop_sim.proofs.Ends.{trace_ends}
use Rattle.loop_sim.proofs.laws.traces_end.Goals as goal

pub returns : goal.returns
returns c p rows seed left t x = trace_ends p rows seed left t x
