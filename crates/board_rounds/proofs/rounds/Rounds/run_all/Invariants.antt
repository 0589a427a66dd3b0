use Rattle.board_rounds.specs.inside.RoundInvariant.{IsRoundInvariant, to_go}
use Rattle.board_rounds.proofs.rounds.Rounds.run_all.Given as goal

abbrev pub invariant-rounds : goal.invariant-rounds
invariant-rounds g l = IsRoundInvariant (g.L.Rule.holds_before l.rule) l.board (g.L.Rule.game l.rule).cells l.workers l.self

abbrev pub decreases-rounds : goal.decreases-rounds
decreases-rounds g l = to_go (g.L.Rule.game l.rule).cells l.self
