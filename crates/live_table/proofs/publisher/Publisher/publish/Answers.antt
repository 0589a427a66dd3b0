use Rattle.live_table.proofs.publisher.Publisher.publish.Goals as goal

pub returns-clause-list : goal.returns-clause-list
returns-clause-list g c = rw (← c.self.view_is) c.in-Some.ensures
