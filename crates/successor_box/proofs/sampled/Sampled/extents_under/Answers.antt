use Rattle.successor_box.proofs.sampled.Sampled.extents_under.Goals as goal

pub growth_extents-requires-clause-values : goal.growth_extents-requires-clause-values
growth_extents-requires-clause-values c = (c.requires.line.0, c.lanes-at.ensures c.requires.line.0 c.requires.line.1)

pub returns-in-One-clause-each : goal.returns-in-One-clause-each
returns-in-One-clause-each c = λ cell centres. c.growth_extents.ensures.each cell (c.lanes-at.ensures cell centres)

pub next_extents-requires-clause-values : goal.next_extents-requires-clause-values
next_extents-requires-clause-values c = (c.requires.line.0, c.lanes-at.ensures c.requires.line.0 c.requires.line.1)

pub returns-in-Two-clause-each : goal.returns-in-Two-clause-each
returns-in-Two-clause-each c = λ cell centres. c.next_extents.ensures.each cell (c.lanes-at.ensures cell centres)
