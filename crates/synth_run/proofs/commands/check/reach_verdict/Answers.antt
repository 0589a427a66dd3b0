use Rattle.std.proofs.Common.{sym, subst}
use Rattle.plant_record.specs.Description.{Description}
use Rattle.game_core.specs.Right.{IsRight}
use Rattle.game_parts.specs.GameParts.{IsFirstInGame}
use Rattle.command_outcomes.specs.IsOutcomeFor.{IsSolvable}
use Rattle.synth_run.specs.inside.Judging.{IsJudged}
use Rattle.synth_run.proofs.RightCells.{judged_by_first}
use Rattle.text_abstraction.proofs.PlantTexts.{is_solvable}
use Rattle.synth_run.proofs.commands.check.reach_verdict.Goals as goal

pub find_first_wrong-requires-clause-judged : goal.find_first_wrong-requires-clause-judged
find_first_wrong-requires-clause-judged g c = λ κs within. rw (c.plant-plant.ensures, c.new-judge.ensures.rows) c.new-judge.ensures.judges

pub returns-clause-solvable : goal.returns-clause-solvable
returns-clause-solvable g c =
    let found = c.in_ok-first.ensures.first in
    subst IsSolvable c.plant-plant.ensures (is_solvable c.plant-plant.result.now found.game c.in_ok-slopes.ensures.fits found.abstraction found.graph)

pub returns-clause-verdict : goal.returns-clause-verdict
returns-clause-verdict g c =
    let p = c.args.table.now.plant in
    let rows = c.args.table.now.rows in
    let first = c.in_ok-first.first in
    let judged = rw c.new-judge.ensures.rows at c.in_ok-first.ensures.first in
    let found = subst (λ (q : Description). IsFirstInGame q (λ h. IsRight h rows) first) c.plant-plant.ensures judged in
    subst (IsJudged p rows) (sym c.by_first_wrong.ensures) (judged_by_first p rows first c.requires c.new-judge.ensures.judges.one_each found)
