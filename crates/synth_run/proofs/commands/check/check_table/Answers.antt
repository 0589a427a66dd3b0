use Rattle.std.proofs.Common.{inr, ◌≡◌, refl, sym, subst}
use Rattle.table_check.specs.declared.verdict.Verdict.TheVariants.{Valid}
use Rattle.text_abstraction.specs.declared.stop.Stop.{Stop}
use Rattle.command_outcomes.specs.Stages.{IsRowsRefusal}
use Rattle.text_abstraction.specs.Causes.{IsStopFor}
use Rattle.synth_run.specs.inside.Judging.{IsStopBy}
use Rattle.synth_run.proofs.Reporting.{on_ok_both}
use Rattle.synth_run.proofs.commands.check.check_table.Goals as goal
use Rattle.std.proofs.lemmas.Result.{IfErr-weaker}

pub returns-clause-solvable : goal.returns-clause-solvable
returns-clause-solvable g c =
    let verdict = c.in_ok-verdict.verdict in
    on_ok_both c.refuse_invalid.result (verdict ≡ Valid) (verdict ≡ Valid) _ (λ _ _. c.in_ok-verdict.ensures.solvable) c.refuse_invalid.ensures.valid c.refuse_invalid.ensures.valid

pub returns-clause-solution : goal.returns-clause-solution
returns-clause-solution g c =
    let judged = c.in_ok-verdict.ensures.verdict in
    let verdict = c.in_ok-verdict.verdict in
    on_ok_both c.refuse_invalid.result (verdict ≡ Valid) (verdict ≡ Valid) _
    (λ valid _. record { game = judged.game; abstraction = judged.abstraction; solution = judged.judged.valid.0 valid }) c.refuse_invalid.ensures.valid c.refuse_invalid.ensures.valid

pub returns-clause-refused : goal.returns-clause-refused
returns-clause-refused g c =
    let judged = c.in_ok-verdict.ensures.verdict in
    let verdict = c.in_ok-verdict.verdict in
    let table = c.args.table.now in
    IfErr-weaker c.refuse_invalid.result (IsStopBy verdict) _
    (λ stop found. subst (λ (s : Stop). IsStopFor (IsRowsRefusal table.plant table.rows) s) (sym found.2)
    (inr (found.0, refl, c.in_ok-verdict.ensures.solvable, record { game = judged.game; abstraction = judged.abstraction; wrong = (judged.judged.invalid found.0).0 found.1 })))
    c.refuse_invalid.ensures.invalid
