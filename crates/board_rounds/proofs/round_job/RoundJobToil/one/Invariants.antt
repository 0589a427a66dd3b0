use Rattle.std.proofs.Common.{take}
use Rattle.board_rounds.proofs.Working.{IsUnderWay}
use Rattle.board_rounds.proofs.round_job.RoundJobToil.one.Given as goal

abbrev pub invariant-loop-pair : goal.invariant-loop-pair
invariant-loop-pair g l =
    IsUnderWay (g.L.Rule.game l.self.rule.now) (g.L.Rule.keeps l.self.rule.now l.self.round) l.self.board.now l.self.list.now (take l.pair-index l.sources) l.initial.worker l.worker
