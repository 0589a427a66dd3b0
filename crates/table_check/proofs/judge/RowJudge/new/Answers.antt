use Rattle.table_check.proofs.Fitting.{can_judge}
use Rattle.table_check.proofs.judge.RowJudge.new.Goals as goal

pub returns-clause-judges : goal.returns-clause-judges
returns-clause-judges c =
    let t = c.args.table.now in
    can_judge t.plant t.rows (rw c.answer.ensures.rows at c.answer.ensures.fit) c.requires
