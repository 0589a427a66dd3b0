use Rattle.board_rounds.proofs.Crews.{one_sweeps}
use Rattle.board_rounds.proofs.workers.work.Goals as goal

pub returns-then-members-eq1-clause-swept : goal.returns-then-members-eq1-clause-swept
returns-then-members-eq1-clause-swept g c =
    one_sweeps g.T.Toil.done c.args.members.now _ c.index-members-0.result c.items-items.result (g.T.Toil.count c.args.job.now) c.if-members-eq1.true c.items-items.ensures c.one_by_one.ensures.done
