use Rattle.source_lists.proofs.Tallying.{put_each, segment_has_capacity}
use Rattle.source_lists.proofs.intake.RowFillIntake.add.Goals as goal

pub put_each-requires-clause-room : goal.put_each-requires-clause-room
put_each-requires-clause-room c = segment_has_capacity c.args.self.now c.args.first c.args.len c.requires.within c.requires.room

pub returns : goal.returns
returns c = put_each c.args.pair c.args.self.now c.put_each.new.self c.args.first c.args.len c.requires.within c.put_each.ensures.rows c.put_each.ensures.lengths
