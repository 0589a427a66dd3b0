use Rattle.std.proofs.lemmas.List.Elements.{All-set, All-get_or}
use Rattle.frontier_pool.specs.Sweeps.{IsIdle}
use Rattle.frontier_pool.specs.declared.member.Member.{Member}
use Rattle.frontier_pool.proofs.Swept.{one_sweeps}
use Rattle.frontier_pool.proofs.pool.do_all.Goals as goal

pub one_by_one-requires-clause-sound : goal.one_by_one-requires-clause-sound
one_by_one-requires-clause-sound g c κs within = All-get_or (λ (m : Member g.row.T-Hand.Denot). g.T.Toil.sound c.args.job.now m.hand) c.args.members.now 0 c.index-members-0.result c.requires.some c.requires.sound

pub returns-clause-swept : goal.returns-clause-swept
returns-clause-swept g c = one_sweeps g.T.Toil.done c.args.members.now _ c.index-members-0.result c.args.items c.requires.some c.one_by_one.ensures.done

pub returns-clause-sound : goal.returns-clause-sound
returns-clause-sound g c = All-set (λ (m : Member g.row.T-Hand.Denot). g.T.Toil.sound c.args.job.now m.hand) c.args.members.now 0 _ c.one_by_one.ensures.sound c.requires.sound

pub returns-clause-idle : goal.returns-clause-idle
returns-clause-idle g c = All-set IsIdle c.args.members.now 0 _ (All-get_or IsIdle c.args.members.now 0 c.index-members-0.result c.requires.some c.requires.idle) c.requires.idle
