use Rattle.table_check.specs.inside.Below.{NoneLeadsBelow}
use Rattle.table_check.proofs.judge.RowJudge.none_leads_below.Given as goal

abbrev pub invariant-loop-input : goal.invariant-loop-input
invariant-loop-input g l = NoneLeadsBelow (g.G.Forward.game l.g) l.self.rows.now l.c l.from l.input l.bound
