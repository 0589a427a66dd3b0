use Rattle.std.proofs.Common.{sym, ◌∙◌, subst}
use Rattle.game_core.specs.Judging.{IsFirstFailure}
use Rattle.game_core.specs.Right.{IsRight}
use Rattle.plant_record.specs.declared.aims.GoalKind.TheVariants.{Reach}
use Rattle.table_check.specs.Verdicts.{IsVerdictFor}
use Rattle.table_check.proofs.FirstWrong.{first_wrong_verdict}
use Rattle.table_check.proofs.reach.check_reach.Goals as goal

pub first_wrong-requires-clause-judged : goal.first_wrong-requires-clause-judged
first_wrong-requires-clause-judged g c = rw (c.new-judge.ensures.rows, c.requires.cells, c.requires.inputs) c.new-judge.ensures.judges

pub returns : goal.returns
returns g c =
    let game = g.G.Forward.game c.args.g.now in
    let rows = c.args.t.now.rows in
    let found = rw c.new-judge.ensures.rows at c.first_wrong.ensures in
    let first = subst (λ n. IsFirstFailure (IsRight game rows) 0 n c.first_wrong.result) c.cells.ensures found in
    let one_each = c.new-judge.ensures.judges.one_each ∙ sym c.requires.cells in
    subst (IsVerdictFor Reach game rows) (sym c.by_first_wrong.ensures) (first_wrong_verdict game rows c.first_wrong.result (g.met.G.Forward.lawful c.args.g.now).game one_each first)
