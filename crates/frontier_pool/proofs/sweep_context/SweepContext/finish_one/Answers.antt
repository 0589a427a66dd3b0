use Rattle.std.proofs.Common.{arith}
use Rattle.frontier_pool.proofs.Steps.{final_claim_allowed}
use Rattle.frontier_pool.proofs.sweep_context.SweepContext.finish_one.Goals as goal

pub fetch_max-found-requires : goal.fetch_max-found-requires
fetch_max-found-requires g c =
    let sweep_context = c.args.self.now in
    let caller = c.requires.caller in
    (caller.worker, omega (arith, sweep_context.width), final_claim_allowed _ _ _ _ _ caller.first caller.some (omega (arith, sweep_context.told)))
