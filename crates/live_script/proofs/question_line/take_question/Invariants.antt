use Rattle.std.proofs.Common.{◌-◌, length}
use Rattle.live_script.specs.inside.QuestionWords.{IsReadSoFar}
use Rattle.live_script.proofs.question_line.take_question.Given as goal

abbrev pub invariant-loop-rest : goal.invariant-loop-rest
invariant-loop-rest l = IsReadSoFar l.fn.bytes l.question l.rest

abbrev pub decreases-loop-rest : goal.decreases-loop-rest
decreases-loop-rest l = 6 - length l.question
