use Rattle.std.proofs.Common.{length}
use Rattle.live_run.specs.inside.Answering.{IsAnsweredSoFar}
use Rattle.live_run.proofs.answers.answers_in.Given as goal

abbrev pub invariant-loop-text : goal.invariant-loop-text
invariant-loop-text g l = IsAnsweredSoFar l.fn.script l.unread l.session l.text.items

abbrev pub decreases-loop-text : goal.decreases-loop-text
decreases-loop-text g l = length l.unread.rest
