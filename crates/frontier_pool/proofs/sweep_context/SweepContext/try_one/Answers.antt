use Rattle.std.proofs.Common.{arith}
use Rattle.frontier_pool.proofs.Steps.{claim_allowed}
use Rattle.frontier_pool.proofs.sweep_context.SweepContext.try_one.Goals as goal

pub fetch_max-found-requires : goal.fetch_max-found-requires
fetch_max-found-requires g c =
    let sweep_context = c.args.self.now in
    (c.requires.seat.worker, omega (arith, sweep_context.width), claim_allowed _ _ _ _ _ c.requires.seat.some (omega (arith, sweep_context.told)))
