use Rattle.temporal_games.proofs.Withdrawing.{IsWithdrawing}
use Rattle.temporal_games.proofs.arrivals.Arrivals.remove_lost.Given as goal

abbrev pub invariant-loop-c : goal.invariant-loop-c
invariant-loop-c l = IsWithdrawing l.initial.self-inside.marks.items l.answer l.c l.found l.self-inside.marks.items
